-- A range call, by its answer, tells of at most 64 single steps.
use mathlib.Core.Path.{◌≡◌, refl, sym, ap, ◌∙◌}
use mathlib.Core.Bool.{true, false}
use mathlib.Core.List.{List, [], ◌∷◌, ◌++◌}
use mathlib.Core.Option.{Option, none, some}
use Prim.Native.Nat.{ℕ, suc, ◌+◌, ◌*◌, ◌-◌, ◌%◌, ◌≤◌, ◌^◌, min}
use native.Mathlib.Omega.{arith}
use borrow.Author.Tests.{lt-ltb, ne_eqb}
use lib.ListN.{length}
use Rattle.runs.specs.Run.{Step, took, refuses, complete, refused, End, ended, one_more, onward, run}
use Rattle.runs.proofs.Gate.{passed}
use Rattle.runs.proofs.Kept.{Holds, kept}
use Rattle.runs.proofs.Alike.{map_end}
use Rattle.runs.proofs.Pieces.{range_call, told}
use Rattle.words.specs.Granule.{granule_size, granule_of, is_base, address_of}
use Rattle.words.proofs.Booleans.{and_true}
use Rattle.words.proofs.GranuleLaws.{address_granule}
use Rattle.tables.specs.Length.{lengths_hold}
use Rattle.records.specs.Monitor.{guest_of, live_in}
use Rattle.answers.specs.Answer.{numbers_of}
use Rattle.commands.specs.State.{State, state, answered}
use Rattle.commands.specs.Tests.{Tests, first_refusal}
use Rattle.commands.specs.Command.{unless_refused, view_of, effected}
use Rattle.records.specs.declared.monitor.Monitor.{Monitor}
use Rattle.records.specs.declared.guest.Guest.{Guest}
use Rattle.answers.specs.declared.answer.Answer.{Answer}
use Rattle.answers.specs.declared.answer.Numbers.{Numbers}
use Rattle.granules.specs.Step.{Place, place, Refusal, is_damaged, not_done, table_step}
use Rattle.ranges.specs.Range.{range_limit}
use Rattle.functions.specs.Function.{function_of, asked_by}
use Rattle.functions.specs.Rules.{registers, error_answer}
use Rattle.call_table.specs.Table.{granules_of, is_told, ranged_row_of}
use Rattle.functions.specs.declared.numbers.Function.{Function}
use Rattle.functions.specs.declared.numbers.Function.TheVariants.{Share, Unshare, RangeGuardMap, RangeGuardUnmap}
use Rattle.call_table.specs.declared.rows.Action.TheVariants as action
use Rattle.call_table.specs.declared.rows.Count.{Count}
use Rattle.call_table.specs.declared.rows.Count.TheVariants.{Asked, AskedOrOne}
use Rattle.functions.specs.declared.rules.Error.{Error}
use Rattle.functions.specs.declared.rules.Error.TheVariants.{NotSupported, InvalidParameter}
use Rattle.guest_callers.specs.Callers.{caller_tests}
use Rattle.guest_hypercalls.specs.Calls.{row_tests, finished, act_of}
use Rattle.claims.specs.SingleSteps.{RangeCall, share, unshare, range_guard_map, range_guard_unmap, number_of, error_of, registers_right, enrolment_right, step_tests, changed_at, At, at, single_step}
use Rattle.claims.specs.Pieces.{read_call, call_at, live_legacy}
use Rattle.claims.proofs.Took.{step_took}
use Rattle.claims.proofs.StepAgrees.{operation_of, granule_step, located, numbers_by, agrees}
use Rattle.claims.proofs.KindRows.{by_row, ranged_row, unless, tests_read}
use Rattle.claims.proofs.BeforeGranules.{call_refusal, steps_gated, call_passed, gated_passed, stays}

abbrev pub function_by : RangeCall → Function
function_by share = Share
function_by unshare = Unshare
function_by range_guard_map = RangeGuardMap
function_by range_guard_unmap = RangeGuardUnmap

pub number_asked : (c : RangeCall) → function_of (number_of c) ≡ function_by c
unfolding function_of
number_asked share = refl
number_asked unshare = refl
number_asked range_guard_map = refl
number_asked range_guard_unmap = refl

abbrev error_by : RangeCall → Error
error_by share = InvalidParameter
error_by unshare = InvalidParameter
error_by range_guard_map = NotSupported
error_by range_guard_unmap = NotSupported

error_read : (c : RangeCall) (b : ℕ) (s : State) → read_call b (answered s (error_answer (error_by c))) ≡ ended 0 (at b s) (refused (error_of c))
unfolding numbers_of
error_read share b s = refl
error_read unshare b s = refl
error_read range_guard_map b s = refl
error_read range_guard_unmap b s = refl

-- the row of the table, the action and the error of a range call with a count of at least 1
row_tests_lem : (c : RangeCall) (r0 b m r3 : ℕ) (g : Guest) → 1 ≤ m
    → row_tests (ranged_row_of (function_by c)) (registers r0 b m r3) g
    ≡ (registers_right c b r3, error_answer (error_by c)) ∷ (enrolment_right c g, error_answer (error_by c)) ∷ []
unfolding ranged_row_of
row_tests_lem share r0 b m r3 g h = refl
row_tests_lem unshare r0 b m r3 g h = refl
row_tests_lem range_guard_map r0 b m r3 g h = rw (lt-ltb 0 m h, and_true (is_base b))
row_tests_lem range_guard_unmap r0 b m r3 g h = rw (lt-ltb 0 m h, and_true (is_base b))

row_error : (c : RangeCall) → (ranged_row_of (function_by c)).error ≡ error_by c
unfolding ranged_row_of
row_error share = refl
row_error unshare = refl
row_error range_guard_map = refl
row_error range_guard_unmap = refl

abbrev count_by : RangeCall → Count
count_by share = AskedOrOne
count_by unshare = AskedOrOne
count_by range_guard_map = Asked
count_by range_guard_unmap = Asked

row_action : (c : RangeCall) → (ranged_row_of (function_by c)).action ≡ action.Change (operation_of c) (count_by c)
unfolding ranged_row_of
row_action share = refl
row_action unshare = refl
row_action range_guard_map = refl
row_action range_guard_unmap = refl

count_counts : (c : RangeCall) (m : ℕ) → 1 ≤ m → (granules_of (count_by c) m ≡ m) × (is_told (count_by c) ≡ true)
count_counts share m h = (rw (ne_eqb m 0 (omega arith)), refl)
count_counts unshare m h = (rw (ne_eqb m 0 (omega arith)), refl)
count_counts range_guard_map m h = (refl, refl)
count_counts range_guard_unmap m h = (refl, refl)

-- no live guest in slot v knows no ranges; single steps change no record, so it stays so
abbrev pub NotLegacy : ℕ → At → Type 0
NotLegacy v (at b s) = live_legacy v s ≡ false

pub not_legacy_kept : (c : RangeCall) (v r3 : ℕ) (p q : At) → NotLegacy v p → single_step c v r3 p ≡ took q → NotLegacy v q
unfolding single_step
not_legacy_kept c v r3 (at b s) q h e =
    let to = (gated_passed (first_refusal (step_tests c v r3 b s)) (took (at (b + granule_size) (changed_at c v b s))) q e).1 in
    let same : at (b + granule_size) (changed_at c v b s) ≡ q = cc in
    rw (← same) h

module _ (c : RangeCall) (r0 : ℕ → ℕ) (number : (b : ℕ) → r0 b % 2 ^ 32 ≡ number_of c) (v r3 : ℕ) where
  -- the granules that a call works on
  abbrev worked : ℕ → At → End Place Refusal
  worked m (at b s) = run (table_step (operation_of c) v) (min range_limit m) (place s.map s.frames (granule_of b))

  -- a range call that is refused before any granule
  abbrev refusal : ℕ → State → Numbers → End At Numbers
  refusal b s n = ended 0 (at b s) (refused n)

  call_reads : (m b : ℕ) (s : State) → 1 ≤ m → live_legacy v s ≡ false
      → call_at r0 v r3 m (at b s)
      ≡ unless (call_refusal c v r3 (at b s)) (refusal b s) (read_call b (effected v s (finished (error_by c) true (worked m (at b s)))))
  unfolding act_of numbers_of
  call_reads m b s h k =
      let guest = guest_of s.monitor v in
      let first = caller_tests s.frames s.map v guest in
      let r = registers (r0 b) b m r3 in
      let asks : asked_by (r0 b) ≡ function_by c = ap function_of (number b) ∙ number_asked c in
      let done = finished (error_by c) true (worked m (at b s)) in
      ap (read_call b) (ranged_row v r s k)
      ∙ ap (λ (f : Function). read_call b (by_row v r (ranged_row_of f) s)) asks
      ∙ ap (λ (ts : Tests Answer). read_call b (effected v s (unless_refused (first_refusal (first ++ ts)) (act_of r (ranged_row_of (function_by c)).error (ranged_row_of (function_by c)).action (view_of v s))))) (row_tests_lem c (r0 b) b m r3 guest h)
      ∙ rw (row_error c, row_action c, (count_counts c m h).0, (count_counts c m h).1)
      (tests_read (read_call b) (refusal b s) v s (error_answer (error_by c)) (error_of c) refl refl refl (error_read c b s)
      (lengths_hold (length s.frames) (length s.map)) (live_in v guest) guest.run (registers_right c b r3) (enrolment_right c guest) done)

  -- a range works upward: after k granules it stands k further
  Upward : ℕ → ℕ → Place → Type 0
  Upward g k (place map frames g') = g' ≡ g + k

  upward : (n : ℕ) (map frames : List ℕ) (g : ℕ) → Holds (Upward g) 0 (run (table_step (operation_of c) v) n (place map frames g))
  unfolding Upward
  upward n map frames g = kept (Upward g) (table_step (operation_of c) v) next n 0 (place map frames g) (omega arith)
    where
      next : (k : ℕ) (p q : Place) → Upward g k p → table_step (operation_of c) v p ≡ took q → Upward g (suc k) q
      next k (place map frames h) (place map' frames' h') i e =
          omega (arith, (step_took (operation_of c) v map frames h (place map' frames' h') e).next_granule)

  -- what a call answers reads as what the run of its granules tells
  module _ (b : ℕ) (m : Monitor) (map frames : List ℕ) (g : ℕ) (eb : address_of g ≡ b) where
    abbrev answers : End Place Refusal → End At Numbers
    answers e = read_call b (effected v (state frames map m) (finished (error_by c) true e))

    abbrev tells : End Place Refusal → End At Numbers
    tells e = told (map_end (located m) (numbers_by (error_of c)) e)

    done_read : (e : End Place Refusal) → Holds (Upward g) 0 (one_more e) → answers (one_more e) ≡ tells (one_more e)
    unfolding Upward numbers_of
    done_read (ended k (place map' frames' g') r) i =
        let there : b + granule_size * suc k ≡ address_of g' = omega arith in
        ap (λ (a : ℕ). ended (suc k) (at a (state frames' map' m)) complete) there

    none_read : (r : Refusal) → answers (ended 0 (place map frames g) (refused r)) ≡ tells (ended 0 (place map frames g) (refused r))
    unfolding numbers_of
    none_read is_damaged = rw eb
    none_read not_done = rw eb (error_read c b (state frames map m))

    run_read : (n : ℕ) → answers (run (table_step (operation_of c) v) (suc n) (place map frames g)) ≡ tells (run (table_step (operation_of c) v) (suc n) (place map frames g))
    run_read n = on (table_step (operation_of c) v (place map frames g)) (upward (suc n) map frames g)
      where
        more : Place → End Place Refusal
        more t = run (table_step (operation_of c) v) n t

        on : (o : Step Place Refusal) → Holds (Upward g) 0 (onward more (place map frames g) o) → answers (onward more (place map frames g) o) ≡ tells (onward more (place map frames g) o)
        on (took t) h = done_read (more t) h
        on (refuses r) h = none_read r

  -- "each stops after 64 granules, at the count, or before the first granule that can't be done": a call is at most 64 of the single steps
  pub call_agrees : (m : ℕ) (p : At) → 1 ≤ m → NotLegacy v p → call_at r0 v r3 m p ≡ range_call (single_step c v r3) range_limit m p
  call_agrees m (at b s) h k = call_reads m b s h k ∙ on (call_refusal c v r3 (at b s)) refl
    where
      n : ℕ
      n = min range_limit m - 1

      some_steps : min range_limit m ≡ suc n
      some_steps = omega arith

      on : (q : Option Numbers) → call_refusal c v r3 (at b s) ≡ q
          → unless q (refusal b s) (read_call b (effected v s (finished (error_by c) true (worked m (at b s))))) ≡ told (run (single_step c v r3) (min range_limit m) (at b s))
      on none e =
          let g = granule_of b in
          let passes = call_passed c v r3 b s e in
          let base : address_of g ≡ b = address_granule b passes.base in
          let p = place s.map s.frames g in
          let start : located s.monitor p ≡ at b s = rw base in
          rw some_steps
          (run_read b s.monitor s.map s.frames g base n
          ∙ ap told
          (sym (agrees (error_of c) c v passes.slot s.monitor (suc n) p)
          ∙ ap (run (granule_step (error_of c) c v) (suc n)) start
          ∙ sym (passed (call_refusal c v r3) (granule_step (error_of c) c v) (stays c v r3) (suc n) (at b s) e)
          ∙ sym (steps_gated c v r3 (suc n) (at b s))))
      on (some r) e = rw (some_steps, steps_gated c v r3 (suc n) (at b s), e)
