-- Each turn is one record of the definition; the text of each stands behind that of those before it, and has 21 bytes at the most for each byte
-- taken, so there is room for another line while bytes are left.
use Rattle.std.proofs.Common.{◌≡◌, ◌&&◌, ℕ, ◌+◌, ◌-◌, ◌*◌, ◌%◌, ◌<◌, ◌≤◌, true, false, List, length, get_or, take, drop, sym, ap, refl, ◌∙◌, arith, length-drop, take_all}
use borrow.Author.Tests.{lt-ltb, le-ltb}
use lib.Dec.{ltb}
use lib.Seq.{drop-length}
use Rattle.records.specs.Monitor.{zero_guest}
use Rattle.records.specs.Change.{alters, with_change}
use Rattle.commands.proofs.InPlace.{stored_in_place, kept_in_place}
use Rattle.trace_records.specs.Record.{Decoded, good_record, decode_of}
use Rattle.trace_records.proofs.DecodeLaws.{record_size}
use Rattle.trace.specs.Replay.{Replay, replay, next_count, advance_of}
use Rattle.commands.specs.State.{state}
use Rattle.trace.specs.Ensured.{kept}
use Rattle.trace.specs.declared.session.Session.{Session}
use Rattle.trace.proofs.ReplayLaws.{stopped_outcome}
use Rattle.trace.proofs.ContinueLaws.{Advances, advance_continues, advance_within, continues_end, continues_all}
use Rattle.trace.proofs.TurnLaws.{turn_record, turn_bad, turn_unfinished}
use Rattle.trace.proofs.session.Session.replay.Goals as goal
use Rattle.trace.proofs.session.Session.replay.Goals.{Joined-slot-lt8, then-slot-lt8+then-alters, else-slot-lt8, else-slot-lt8-via-then-slot-lt8+else-alters, else-slot-lt8-via-else-slot-lt8}

-- what the bytes that are left begin with
decoded : (bytes : List ℕ) (taken : ℕ) (d : Decoded) → d ≡ decode_of (take (length bytes - taken) (drop taken bytes)) → d ≡ decode_of (drop taken bytes)
decoded bytes taken d h = rw (take_all (length bytes - taken) (drop taken bytes) (simp length-drop (omega arith))) at h

-- the places of a turn for a good record, from its end: the bytes that are left, what is kept where the turn begins and where it ends, the record
abbrev ahead : Joined-slot-lt8 → List ℕ
ahead c = drop c.loop-taken.taken c.args.bytes.now

abbrev here : Joined-slot-lt8 → Replay
here c = kept c.loop-taken.self c.loop-taken.frames c.loop-taken.map

abbrev there : Joined-slot-lt8 → Session
there c = record { monitor = c.if-slot-lt8.self.monitor; answered = next_count c.if-slot-lt8.self.answered; stopped = c.if-slot-lt8.self.stopped }

good : (c : Joined-slot-lt8) → decode_of (ahead c) ≡ good_record c.in-Ok-Some.field-0-0.call c.in-Ok-Some.field-0-0.size
good c = sym (decoded c.args.bytes.now c.loop-taken.taken _ c.decode.ensures) ∙ rw c.in-Ok-Some.field-0-is at c.in-Ok-Some.is

-- its guest's record stored, or none where it stays as it was
changed_to : (c : Joined-slot-lt8)
    → let s = c.if-slot-lt8.self in
    let before = c.loop-taken.self in
    (s.monitor ≡ with_change before.monitor c.slot-slot.result c.answer-change.result) × (s.answered ≡ before.answered) × (s.stopped ≡ false)
changed_to c =
    let m = c.loop-taken.self.monitor in
    let v = c.slot-slot.result in
    let d = c.answer-change.result in
    let going = c.loop-taken.invariant.3 in
    elim c.if-slot-lt8.branch [
      | then-slot-lt8+then-alters w ↦
          let asked : ltb v 8 && alters d ≡ true = rw (lt-ltb v 8 w.if-slot-lt8.true, ← w.alters.ensures) w.if-alters.true in
          rw w.self-is (stored_in_place m v d (get_or m.guests (v % 8) zero_guest) refl w.apply.result asked w.apply.ensures, refl, going)
      | else-slot-lt8 w ↦
          let asked : ltb v 8 && alters d ≡ false =
          elim w.else-slot-lt8.branch [
            | else-slot-lt8-via-then-slot-lt8+else-alters u ↦ rw (lt-ltb v 8 u.if-slot-lt8.true, ← u.alters.ensures) u.if-alters.false
            | else-slot-lt8-via-else-slot-lt8 u ↦ rw (le-ltb v 8 (omega arith)) refl
          ]
          in
          rw w.self-is (kept_in_place m v d asked, refl, going)
    ]

turn : (c : Joined-slot-lt8)
    → let last = c.answer-change.new in
    Advances (advance_of (here c) (ahead c)) (kept (there c) last.frames last.map) c.loop-taken.text.text last.text.text c.in-Ok-Some.field-0-0.size
turn c =
    let l = c.loop-taken in
    let (stored, same, going) = changed_to c in
    turn_record l.self l.frames l.map l.invariant.3 (ahead c) _ _ (good c) c.slot-slot.result _ c.slot-slot.ensures refl c.answer-change.result _ _ l.text _
    (omega (arith, l.invariant.2, c.loop-taken-test.true, c.requires)) c.answer-change.ensures (there c) stored (ap next_count same) going

-- how far it got
got : (c : Joined-slot-lt8)
    → let n = c.loop-taken.taken + c.in-Ok-Some.field-0-0.size in
    (n ≤ length c.args.bytes.now) × (length c.answer-change.new.text.text ≤ 21 * n) × (c.loop-taken.taken < n)
got c =
    let l = c.loop-taken in
    let far = advance_within (here c) _ c.args.bytes.now l.text.text _ l.taken _ l.invariant.1 l.invariant.2 (turn c) in
    (far.0, far.1, omega (arith, (record_size _ _ _ (good c)).0))

pub returns-then-self : goal.returns-then-self
returns-then-self c =
    let start = kept c.args.self.now c.args.frames.now c.args.map.now in
    let bytes = c.args.bytes.now in
    record { comes_to = rw (c.clear.ensures, drop-length bytes) (stopped_outcome start bytes c.if-self.true); within = omega arith }

pub returns-in-Ok-None : goal.returns-in-Ok-None
returns-in-Ok-None c =
    let l = c.loop-taken in
    let bytes = c.args.bytes.now in
    let is = sym (decoded bytes l.taken _ c.decode.ensures) ∙ rw c.in-Ok-None.field-0-is at c.in-Ok-None.is in
    let none = turn_unfinished l.self l.frames l.map l.invariant.3 (drop l.taken bytes) is in
    record { comes_to = continues_end _ _ bytes _ l.taken l.invariant.0 none; within = l.invariant.1 }

pub returns-in-Err : goal.returns-in-Err
returns-in-Err c =
    let l = c.loop-taken in
    let bytes = c.args.bytes.now in
    let room : length l.text.text + 105 ≤ 131072 = omega (arith, l.invariant.2, c.loop-taken-test.true, c.requires) in
    let is = sym (decoded bytes l.taken _ c.decode.ensures) ∙ c.in-Err.is in
    let turned = turn_bad l.self l.frames l.map l.invariant.3 (drop l.taken bytes) is l.text _ room c.put.ensures in
    let all : l.taken + length (drop l.taken bytes) ≡ length bytes = simp length-drop (omega (arith, l.invariant.1)) in
    let end = replay (state l.frames l.map l.self.monitor) l.self.answered true in
    let on = advance_continues _ _ end bytes l.text.text _ l.taken _ l.invariant.0 turned in
    record { comes_to = continues_all _ end bytes _ (rw all at on); within = omega arith }

pub overflow_add-taken : goal.overflow_add-taken
overflow_add-taken c =
    let at = (goal.at.overflow_add-taken c).Joined-slot-lt8 in
    let far = got at in record { fits = omega (arith, far.0, c.requires) }

pub loop-taken-smaller : goal.loop-taken-smaller
loop-taken-smaller c =
    let at = (goal.at.loop-taken-smaller c).Joined-slot-lt8 in
    let far = got at in omega (arith, far.0, far.2)

pub loop-taken-preserved : goal.loop-taken-preserved
loop-taken-preserved c =
    let at = (goal.at.loop-taken-preserved c).Joined-slot-lt8 in
    let l = c.loop-taken in
    let on = advance_continues _ (here at) _ c.args.bytes.now l.text.text _ l.taken _ l.invariant.0 (turn at) in
    let far = got at in
    (on, far.0, far.1, (changed_to at).2)

pub returns : goal.returns
returns c =
    let l = c.loop-taken in
    let bytes = c.args.bytes.now in
    let all : l.taken ≡ length bytes = omega (arith, l.invariant.1, c.loop-taken-test.false) in
    record { comes_to = rw all (continues_all _ _ bytes _ (rw all at l.invariant.0)); within = l.invariant.1 }
