-- What a call comes to by the result of its tests, which the code makes one after another.
use mathlib.Core.Path.{◌≡◌, refl, sym, ap, ◌∙◌}
use mathlib.Core.Bool.{Bool, true, false, cond}
use mathlib.Core.List.{List, [], ◌∷◌, ◌++◌}
use mathlib.Core.Option.{Option, none, some}
use Prim.Native.Nat.{ℕ, ◌<◌}
use borrow.Author.Tests.{ltb-true}
use lib.ListN.{length, set}
use Rattle.std.specs.Prelude.{Ok, Err}
use Rattle.words.specs.FrameWord.{frame_bits}
use Rattle.tables.specs.Row.{row_of}
use Rattle.pairs.specs.Pair.{pair_of}
use Rattle.pairs.specs.declared.pairs.FrameState.{FrameState}
use Rattle.pairs.specs.declared.pairs.FrameState.TheVariants as frame-state
use Rattle.answers.specs.declared.answer.Answer.{Answer}
use Rattle.answers.specs.declared.answer.Answer.TheVariants.{Done, Damaged, NotWaiting}
use Rattle.records.specs.declared.guest.Guest.{Guest}
use Rattle.records.specs.declared.change.Change.{Change}
use Rattle.records.specs.declared.change.Change.TheVariants.{Kept}
use Rattle.records.proofs.MonitorLaws.{lived}
use Rattle.commands.specs.Tests.{Tests, first_refusal, Admission, refusal_by}
use Rattle.commands.specs.Command.{View, view, Success, success_answer, answer_only, change_record, Command, both_tables, length_tests, tests_of, effect_of, unless_refused, decision, decided_by, Result, result_with, result_by, result_of}
use Rattle.commands.proofs.TestLaws.{all_pass}
use Rattle.guest_callers.specs.Callers.{caller_tests}
use Rattle.functions.specs.declared.rules.Registers.{Registers}
use Rattle.call_table.specs.declared.rows.CallRow.{CallRow}
use Rattle.guest_hypercalls.specs.Calls.{row_tests, act_of, row_for, hypercall_command}
use Rattle.host_frames.specs.Calls.{open_to, range_tests, access_looks, cleared_looks, handed_back, cleared_command, access_command}
use Rattle.host_guests.specs.Calls.{Shown, show_command, shown_by}

through : {A : Type 0} (a : Bool) (q : Option A) (r : A) → cond a q (some r) ≡ none → (a ≡ true) × (q ≡ none)
through true q r h = (refl, h)
through false q r h = (cc, cc)

still_refused : {A : Type 0} (b : Bool) (q q' : Option A) (r a : A) → (q ≡ some a → q' ≡ some a) → cond b q (some r) ≡ some a → cond b q' (some r) ≡ some a
still_refused true q q' r a f h = f h
still_refused false q q' r a f h = h

-- tests before others: where they refuse, so do all; where they pass, the others decide
pub first_refuse : {A : Type 0} (ts us : Tests A) (a : A) → first_refusal ts ≡ some a → first_refusal (ts ++ us) ≡ some a
first_refuse [] us a h = cc
first_refuse (t ∷ ts) us a h = still_refused t.0 (first_refusal ts) (first_refusal (ts ++ us)) t.1 a (λ e. first_refuse ts us a e) h

pub first_pass : {A : Type 0} (ts us : Tests A) → first_refusal ts ≡ none → first_refusal (ts ++ us) ≡ first_refusal us
first_pass [] us h = refl
first_pass (t ∷ ts) us h = let p = through t.0 (first_refusal ts) t.1 h in rw p.0 (first_pass ts us p.1)

-- by what its tests came to
module _ (k : Command) (x : View) (q : Admission) (t : refusal_by q ≡ first_refusal (tests_of k x)) where
  pub refused_result : (a : Answer) → q ≡ Err a → result_with x.frames x.map (decision Kept a) ≡ result_of k x
  refused_result a p = rw (← t, p)

  pub passed_result : q ≡ Ok tt → (o : Result) → o ≡ result_by x (effect_of k x) → o ≡ result_of k x
  passed_result p o e = rw (← t, p) e

-- decided right behind its tests
module _ (x : View) (ts : Tests Answer) {q : Option Answer} (e : q ≡ first_refusal ts) where
  pub answered_result : (a : Answer) → result_with x.frames x.map (decided_by q Kept a) ≡ result_by x (unless_refused (first_refusal ts) (answer_only a))
  answered_result a = rw e (on (first_refusal ts))
    where
      on : (r : Option Answer) → result_with x.frames x.map (decided_by r Kept a) ≡ result_by x (unless_refused r (answer_only a))
      on none = refl
      on (some b) = refl

  pub changed_result : (d : Change) (y : Success) → result_with x.frames x.map (decided_by q d (success_answer y)) ≡ result_by x (unless_refused (first_refusal ts) (change_record d y))
  changed_result d y = rw e (on (first_refusal ts))
    where
      on : (r : Option Answer) → result_with x.frames x.map (decided_by r d (success_answer y)) ≡ result_by x (unless_refused r (change_record d y))
      on none = refl
      on (some b) = refl

-- a caller that passed verdicts 1 to 3 is one of the eight slots
pub caller_slot : (frames map : List ℕ) (v : ℕ) (g : Guest) (x : Admission) → refusal_by x ≡ first_refusal (caller_tests frames map v g) → x ≡ Ok tt → v < 8
caller_slot frames map v g x t p = (lived v g (all_pass (caller_tests frames map v g) (sym t ∙ ap refusal_by p)).1.0).0

-- a hypercall of slot v, by what verdicts 1 to 3 came to
module _ (v : ℕ) (r : Registers) (x : View) (q : Admission) (t : refusal_by q ≡ first_refusal (caller_tests x.frames x.map x.slot x.guest)) where
  abbrev caller : Tests Answer
  caller = caller_tests x.frames x.map x.slot x.guest

  abbrev row : CallRow
  row = row_for r x.guest

  pub call_refused : (a : Answer) → q ≡ Err a → result_with x.frames x.map (decision Kept a) ≡ result_of (hypercall_command v r) x
  call_refused a p =
      refused_result (hypercall_command v r) x q (ap refusal_by p ∙ sym (first_refuse caller (row_tests row r x.guest) a (sym t ∙ ap refusal_by p))) a p

  -- and by what the tests of its function's row came to
  module _ (p : q ≡ Ok tt) (w : CallRow) (ew : w ≡ row) (y : Admission) (u : refusal_by y ≡ first_refusal (row_tests w r x.guest)) where
    all_tested : refusal_by y ≡ first_refusal (tests_of (hypercall_command v r) x)
    all_tested = u ∙ rw ew (sym (first_pass caller (row_tests row r x.guest) (sym t ∙ ap refusal_by p)))

    pub row_refused : (a : Answer) → y ≡ Err a → result_with x.frames x.map (decision Kept a) ≡ result_of (hypercall_command v r) x
    row_refused a e = refused_result (hypercall_command v r) x y all_tested a e

    pub row_passed : y ≡ Ok tt → (o : Result) → o ≡ result_by x (act_of r w.error w.action x) → o ≡ result_of (hypercall_command v r) x
    row_passed e o h = passed_result (hypercall_command v r) x y all_tested e o (rw (← ew) h)

abbrev told : View → Answer → Result
told s a = result_with s.frames s.map (decision Kept a)

-- what access answers where the numbers are in range, by what the frame is
abbrev pub access_by : FrameState → Answer
access_by frame-state.Host = Done 1
access_by frame-state.Waiting = Done 0
access_by (frame-state.Owned v true g) = Done 1
access_by (frame-state.Owned v false g) = Done 0
access_by frame-state.Damaged = Damaged

access_refuses : (s : View) (d : FrameState) → told s (access_by d) ≡ result_by s (unless_refused (first_refusal (access_looks d)) (answer_only (Done (open_to d))))
access_refuses s frame-state.Host = refl
access_refuses s frame-state.Waiting = refl
access_refuses s (frame-state.Owned v true g) = refl
access_refuses s (frame-state.Owned v false g) = refl
access_refuses s frame-state.Damaged = refl

-- what cleared comes to where the numbers are in range, by what the frame is
abbrev pub cleared_by : ℕ → View → FrameState → Result
cleared_by f s frame-state.Host = told s NotWaiting
cleared_by f s frame-state.Waiting = result_with (set s.frames f 0) s.map (decision Kept (Done 0))
cleared_by f s (frame-state.Owned v b g) = told s NotWaiting
cleared_by f s frame-state.Damaged = told s Damaged

cleared_refuses : (f : ℕ) (s : View) (d : FrameState) → cleared_by f s d ≡ result_by s (unless_refused (first_refusal (cleared_looks d)) (handed_back f s))
unfolding frame_bits
cleared_refuses f s frame-state.Host = refl
cleared_refuses f s frame-state.Waiting = refl
cleared_refuses f s (frame-state.Owned v b g) = refl
cleared_refuses f s frame-state.Damaged = refl

-- a call about frame f, by what the tests of its numbers came to
module _ (f : ℕ) (s : View) (x : Admission) (t : refusal_by x ≡ first_refusal (length_tests both_tables s.frames s.map ++ range_tests (length s.frames) f)) where
  abbrev range : Tests Answer
  range = length_tests both_tables s.frames s.map ++ range_tests (length s.frames) f

  abbrev found : FrameState
  found = pair_of s.frames s.map f

  pub access_refused : (a : Answer) → x ≡ Err a → told s a ≡ result_of (access_command f) s
  access_refused a p = let e : first_refusal (tests_of (access_command f) s) ≡ some a = first_refuse range (access_looks found) a (rw (← t, p)) in rw e

  pub cleared_refused : (a : Answer) → x ≡ Err a → told s a ≡ result_of (cleared_command f) s
  cleared_refused a p = let e : first_refusal (tests_of (cleared_command f) s) ≡ some a = first_refuse range (cleared_looks found) a (rw (← t, p)) in rw e

  pub in_range : x ≡ Ok tt → f < length s.frames
  in_range p = ltb-true f (length s.frames) (all_pass range (rw (← t, p))).1.0

  pub access_found : x ≡ Ok tt → (k : FrameState) → k ≡ pair_of s.frames s.map f → (d : FrameState) → k ≡ d → told s (access_by d) ≡ result_of (access_command f) s
  access_found p k e d o =
      let same : first_refusal (tests_of (access_command f) s) ≡ first_refusal (access_looks found) = first_pass range (access_looks found) (rw (← t, p)) in
      rw (same, ← e, o) (access_refuses s d)

  pub cleared_found : x ≡ Ok tt → (k : FrameState) → k ≡ pair_of s.frames s.map f → (d : FrameState) → k ≡ d → cleared_by f s d ≡ result_of (cleared_command f) s
  cleared_found p k e d o =
      let same : first_refusal (tests_of (cleared_command f) s) ≡ first_refusal (cleared_looks found) = first_pass range (cleared_looks found) (rw (← t, p)) in
      rw (same, ← e, o) (cleared_refuses f s d)

abbrev shown : Answer → List ℕ → Shown
shown a part = record { answer = a; part = part }

-- a show of slot v, whose record is g, by what its tests came to
module _ (v : ℕ) (map : List ℕ) (g : Guest) (x : Admission) (t : refusal_by x ≡ first_refusal (tests_of (show_command v) (view [] map v g))) where
  pub show_refused : (a : Answer) → x ≡ Err a → shown_by v g map ≡ shown a []
  show_refused a p = rw (← t, p)

  pub show_passed : x ≡ Ok tt → shown_by v g map ≡ shown (Done 0) (row_of map v)
  show_passed p = rw (← t, p)
