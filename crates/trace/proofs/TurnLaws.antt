-- One turn of a replay, by what the bytes are: a call decided on one record, a bad record, or none yet.
use Rattle.std.proofs.Common.{◌≡◌, ℕ, ◌+◌, ◌≤◌, ◌%◌, true, false, List, [], length, get_or, refl, ap, ◌∙◌}
use Rattle.records.specs.Monitor.{zero_guest}
use Rattle.records.specs.Change.{with_change}
use Rattle.commands.specs.State.{State, state}
use Rattle.commands.specs.Command.{view, slot_number, result_of, applied}
use Rattle.records.specs.declared.change.Change.{Change}
use Rattle.records.specs.declared.guest.Guest.{Guest}
use Rattle.calls.specs.Step.{command_of, step}
use Rattle.calls.specs.declared.call.Call.{Call}
use Rattle.commands.proofs.InPlace.{in_place}
use Rattle.trace_records.specs.Record.{good_record, bad_record, unfinished, decode_of}
use Rattle.trace_lines.specs.Filled.{Filled, with_put}
use Rattle.trace_lines.specs.Line.{text_put}
use Rattle.trace_lines.proofs.LineLaws.{put_whole}
use Rattle.trace_lines.specs.declared.lines.Line.TheVariants as line
use Rattle.trace.specs.Replay.{replay, next_count, advance_of, outcome, outcome_of}
use Rattle.trace.specs.Ensured.{kept, Answers}
use Rattle.trace.specs.declared.session.Session.{Session}
use Rattle.trace.proofs.ReplayLaws.{advance_decoded, one_record}
use Rattle.trace.proofs.ContinueLaws.{Advances}

-- a call decided by the record read where its slot's number says is the step
decided : (c : Call) (s : State) (v : ℕ) (g : Guest) → v ≡ slot_number (command_of c).slot s.monitor → g ≡ get_or s.monitor.guests (v % 8) zero_guest
    → applied v s (result_of (command_of c) (view s.frames s.map v g)) ≡ step c s
unfolding step
decided c s v g is read = in_place (command_of c) s v g is read

module _ (q : Session) (frames map : List ℕ) (on : q.stopped ≡ false) (s : List ℕ) where
  -- a call, decided on the record g that was read for its slot v
  module _ (c : Call) (size : ℕ) (e : decode_of s ≡ good_record c size) where
    pub turn_record : (v : ℕ) (g : Guest) → v ≡ slot_number (command_of c).slot q.monitor → g ≡ get_or q.monitor.guests (v % 8) zero_guest
        → (x : Change) (frames' map' : List ℕ) (before after : Filled) → length before.text + 105 ≤ 131072
        → Answers (result_of (command_of c) (view frames map v g)) frames' map' before after x
        → (q' : Session) → q'.monitor ≡ with_change q.monitor v x → q'.answered ≡ next_count q.answered → q'.stopped ≡ false
        → Advances (advance_of (kept q frames map) s) (kept q' frames' map') before.text after.text size
    turn_record v g is read x frames' map' before after room a q' em ek es =
        rw (advance_decoded (kept q frames map) s (good_record c size) on e, ← decided c (state frames map q.monitor) v g is read)
        (record { keeps = rw (a.frames_left, a.map_left, em, a.changes, ek, es); takes = refl; puts = rw put_whole at (ap (λ (b : Filled). b.text) a.puts) })

  pub turn_bad : decode_of s ≡ bad_record → (before after : Filled) → length before.text + 105 ≤ 131072 → after ≡ with_put before (text_put (length before.text) line.Bad)
      → Advances (advance_of (kept q frames map) s) (replay (state frames map q.monitor) q.answered true) before.text after.text (length s)
  turn_bad e before after room h =
      rw (advance_decoded (kept q frames map) s bad_record on e) (record { keeps = refl; takes = refl; puts = rw put_whole at (ap (λ (b : Filled). b.text) h) })

  -- the beginning of a record comes to nothing yet
  pub turn_unfinished : decode_of s ≡ unfinished → outcome_of (kept q frames map) s ≡ outcome [] (kept q frames map) s
  turn_unfinished e =
      one_record (kept q frames map) s ∙ rw (advance_decoded (kept q frames map) s unfinished on e)
