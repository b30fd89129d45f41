-- A share, unshare or guard map of a legacy guest is the step of one granule behind its tests.
use mathlib.Core.Path.{◌≡◌, refl, sym, ap, ◌∙◌}
use mathlib.Core.Bool.{Bool, true, false, cond, ◌&&◌}
use mathlib.Core.List.{List, [], ◌∷◌}
use mathlib.Core.Option.{Option, none, some}
use Prim.Native.Nat.{ℕ, zero, suc, ◌+◌, ◌%◌, ◌^◌}
use native.Mathlib.Omega.{arith}
use borrow.Author.Tests.{ltb-true}
use lib.Dec.{eqb, ltb}
use lib.ListN.{length}
use Rattle.runs.specs.Run.{Step, took, refuses, complete, refused, out_of_fuel, End, ended, onward, gated}
use Rattle.runs.specs.Made.{Every}
use Rattle.runs.proofs.Alike.{map_step}
use Rattle.words.specs.Granule.{granule_size, granule_of, is_base, address_of}
use Rattle.words.proofs.Booleans.{both_true, never}
use Rattle.words.proofs.GranuleLaws.{address_granule}
use Rattle.tables.specs.Length.{width_of, lengths_hold}
use Rattle.pairs.specs.Pair.{pair_at}
use Rattle.records.specs.Monitor.{guest_of, live_in}
use Rattle.answers.specs.Answer.{verdict_with, numbers_of}
use Rattle.commands.specs.State.{State, state, Answered, answered}
use Rattle.commands.specs.Tests.{Tests, first_refusal}
use Rattle.commands.specs.Command.{Effect, effected}
use Rattle.commands.proofs.TestLaws.{all_pass}
use Rattle.records.specs.declared.monitor.Monitor.{Monitor}
use Rattle.answers.specs.declared.answer.Numbers.{Numbers}
use Rattle.answers.specs.declared.answer.Answer.TheVariants.{BadLength, NoGuest, NeverRun}
use Rattle.granules.specs.Step.{Place, place, Refusal, is_damaged, not_done, table_step}
use Rattle.functions.specs.Function.{function_of, asked_by}
use Rattle.functions.specs.Rules.{registers, error_answer}
use Rattle.functions.specs.declared.numbers.Function.{Function}
use Rattle.functions.specs.declared.numbers.Function.TheVariants.{Share, Unshare, GuardMap}
use Rattle.functions.specs.declared.rules.Rule.TheVariants.{Zero, Base}
use Rattle.functions.specs.declared.rules.Condition.TheVariants.{Nothing}
use Rattle.functions.specs.declared.rules.Error.TheVariants.{InvalidParameter}
use Rattle.call_table.specs.Table.{call_row, legacy_row_of}
use Rattle.call_table.specs.declared.rows.CallRow.{CallRow}
use Rattle.call_table.specs.declared.rows.Action.TheVariants as action
use Rattle.call_table.specs.declared.rows.Count.TheVariants.{One}
use Rattle.guest_hypercalls.specs.Calls.{finished, act_of, hypercall_of}
use Rattle.calls.specs.Step.{step}
use Rattle.calls.specs.declared.call.Call.TheVariants.{Hypercall}
use Rattle.claims.specs.SingleSteps.{granule_tests, changed_at, At, at}
use Rattle.claims.specs.Refusals.{is_refusal}
use Rattle.claims.specs.Pieces.{is_range_refusal, differing}
use Rattle.claims.specs.LegacyCalls.{LegacyCall, legacy_share, legacy_unshare, legacy_guard_map, legacy_number, same_change, legacy_error, legacy_call_tests, legacy_tests, legacy_step, read_one, OneGranule}
use Rattle.claims.proofs.Took.{step_took}
use Rattle.claims.proofs.StepAgrees.{operation_of, granule_step, located, numbers_by, like}
use Rattle.claims.proofs.KindRows.{by_row, legacy_row, unless, tests_read}
use Rattle.claims.proofs.BeforeGranules.{gated_append, gated_passed}
use Rattle.claims.proofs.Changes.{one_differs}
use Rattle.claims.proofs.RefusalLaws.{KeptRefused, step_kept}

abbrev function_by : LegacyCall → Function
function_by legacy_share = Share
function_by legacy_unshare = Unshare
function_by legacy_guard_map = GuardMap

number_asked : (c : LegacyCall) → function_of (legacy_number c) ≡ function_by c
unfolding function_of
number_asked legacy_share = refl
number_asked legacy_unshare = refl
number_asked legacy_guard_map = refl

abbrev row_by : LegacyCall → CallRow
row_by c = call_row Base Zero Zero Nothing InvalidParameter (action.Change (operation_of (same_change c)) One)

row_is : (c : LegacyCall) → legacy_row_of (function_by c) ≡ row_by c
unfolding legacy_row_of
row_is legacy_share = refl
row_is legacy_unshare = refl
row_is legacy_guard_map = refl

-- a refusal has the numbers of one of the tests
refusal_is : (P : Numbers → Type 0) (ts : Tests Numbers) → Every (λ t. P t.1) ts → (n : Numbers) → first_refusal ts ≡ some n → P n
refusal_is P [] h n e = never cc
refusal_is P (t ∷ ts) h n e = on t.0 (λ q. refusal_is P ts h.1 n q) e
  where
    on : (b : Bool) → (first_refusal ts ≡ some n → P n) → cond b (first_refusal ts) (some t.1) ≡ some n → P n
    on true more q = more q
    on false more q = let same : t.1 ≡ n = cc in rw same at h.0

-- the step of the granule at b as what a call comes to
module _ (c : LegacyCall) (v b : ℕ) (m : Monitor) (map frames : List ℕ) (g : ℕ) (eb : address_of g ≡ b) where
  abbrev here : Place
  here = place map frames g

  step_read : (o : Step Place Refusal) → table_step (operation_of (same_change c)) v here ≡ o
      → read_one b (effected v (state frames map m) (finished InvalidParameter false (onward (λ t. ended 0 t complete) here o)))
      ≡ map_step (located m) (numbers_by legacy_error) o
  unfolding numbers_of
  step_read (took (place map' frames' g')) e =
      let next = (step_took (operation_of (same_change c)) v map frames g (place map' frames' g') e).next_granule in
      let there : b + granule_size ≡ address_of g' = omega (arith, next) in
      ap (λ (a : ℕ). took (at a (state frames' map' m))) there
  step_read (refuses is_damaged) e = refl
  step_read (refuses not_done) e = refl

-- a step that is done tells 0 alone, and one that is not is refused
done_told : (v : ℕ) (s : State) (p : Place) (o : Step Place Refusal)
    → let a = numbers_of (effected v s (finished InvalidParameter false (onward (λ t. ended 0 t complete) p o))).answer in
    is_range_refusal a ≡ false → a ≡ verdict_with 10 0
unfolding numbers_of
done_told v s p (took (place map frames g)) h = refl
done_told v s p (refuses is_damaged) h = never (sym h)
done_told v s p (refuses not_done) h = never (sym h)

-- a range that tells nothing tells R1 = 0
none_told : (v : ℕ) (s : State) (e : End Place Refusal) → (numbers_of (effected v s (finished InvalidParameter false e)).answer).v1 ≡ 0
unfolding numbers_of
none_told v s (ended zero p complete) = refl
none_told v s (ended zero p (refused is_damaged)) = refl
none_told v s (ended zero p (refused not_done)) = refl
none_told v s (ended zero p out_of_fuel) = refl
none_told v s (ended (suc k) (place map frames g) r) = refl

module _ (c : LegacyCall) (r0 : ℕ) (number : r0 % 2 ^ 32 ≡ legacy_number c) (v b r2 r3 : ℕ) (s : State) (legacy : (guest_of s.monitor v).legacy ≡ true) where
  called : Answered
  called = hypercall_of v (registers r0 b r2 r3) s

  abbrev tests : Tests Numbers
  tests = legacy_call_tests v r2 r3 b s

  abbrev granule : Step At Numbers
  granule = granule_step legacy_error (same_change c) v (at b s)

  -- what a call does whose tests before the granule have passed
  abbrev effect : Effect
  effect =
      finished InvalidParameter false
      (onward (λ t. ended 0 t complete) (place s.map s.frames (granule_of b)) (table_step (operation_of (same_change c)) v (place s.map s.frames (granule_of b))))

  by_row_lem : called ≡ by_row v (registers r0 b r2 r3) (row_by c) s
  unfolding called
  by_row_lem =
      let r = registers r0 b r2 r3 in
      let asks : asked_by r0 ≡ function_by c = ap function_of number ∙ number_asked c in
      legacy_row v r s legacy ∙ ap (λ (f : Function). by_row v r (legacy_row_of f) s) asks ∙ ap (λ (w : CallRow). by_row v r w s) (row_is c)

  -- any reading of it that takes a refusal for what its numbers are
  reads : {A : Type 0} (read : Answered → A) (refusal : Numbers → A) → read (answered s BadLength) ≡ refusal (verdict_with 1 0)
      → read (answered s NoGuest) ≡ refusal (verdict_with 2 0) → read (answered s NeverRun) ≡ refusal (verdict_with 3 0)
      → read (answered s (error_answer InvalidParameter)) ≡ refusal legacy_error → read called ≡ unless (first_refusal tests) refusal (read (effected v s effect))
  unfolding act_of
  reads read refusal bad-length no-guest never-run error =
      let guest = guest_of s.monitor v in
      ap read by_row_lem
      ∙ tests_read read refusal v s (error_answer InvalidParameter) legacy_error bad-length no-guest never-run error
      (lengths_hold (length s.frames) (length s.map)) (live_in v guest) guest.run (is_base b && (eqb r2 0 && eqb r3 0)) true effect

  one_step : read_one b called ≡ gated (first_refusal tests) granule
  unfolding numbers_of
  one_step = reads (read_one b) refuses refl refl refl refl ∙ on (first_refusal tests) refl
    where
      on : (q : Option Numbers) → first_refusal tests ≡ q → unless q refuses (read_one b (effected v s effect)) ≡ gated q granule
      on (some n) e = refl
      on none e =
          let g = granule_of b in
          let p = all_pass tests e in
          let slot = ltb-true v 8 (both_true (ltb v 8) (guest_of s.monitor v).live p.1.0).0 in
          let base : address_of g ≡ b = address_granule b (both_true (is_base b) (eqb r2 0 && eqb r3 0) p.1.1.1.0).0 in
          let start : located s.monitor (place s.map s.frames g) ≡ at b s = rw base in
          step_read c v b s.monitor s.map s.frames g base (table_step (operation_of (same_change c)) v (place s.map s.frames g)) refl
          ∙ sym (like legacy_error (same_change c) v slot s.monitor (place s.map s.frames g))
          ∙ ap (granule_step legacy_error (same_change c) v) start

  abbrev here_tests : Tests Numbers
  here_tests = granule_tests legacy_error (same_change c) (ltb (granule_of b) (width_of (length s.map))) (pair_at s.frames s.map v (granule_of b))

  is_step : read_one b called ≡ legacy_step c v r2 r3 (at b s)
  is_step = one_step ∙ sym (gated_append tests here_tests (took (at (b + granule_size) (changed_at (same_change c) v b s))))

  -- by the answer: where the call was done, and where it was refused, with numbers of one of its tests
  done_one : (x : Bool) (a : Numbers) (t : State) → x ≡ false → cond x (refuses a) (took (at (b + granule_size) t)) ≡ gated (first_refusal tests) granule
      → differing s.map t.map ≡ 1
  done_one true a t h e = never cc
  done_one false a t h e =
      let u = gated_passed (first_refusal tests) granule (at (b + granule_size) t) (sym e) in
      let p = all_pass tests u.0 in
      let slot = ltb-true v 8 (both_true (ltb v 8) (guest_of s.monitor v).live p.1.0).0 in
      one_differs legacy_error (same_change c) v b s t slot u.1

  refused_by : (P : Numbers → Type 0) → P (verdict_with 1 0) → P (verdict_with 2 0) → P (verdict_with 3 0) → P (verdict_with 6 0) → P legacy_error
      → (x : Bool) (a : Numbers) (t : State) → x ≡ true → cond x (refuses a) (took (at (b + granule_size) t)) ≡ legacy_step c v r2 r3 (at b s) → P a
  refused_by P p₁ p₂ p₃ p₆ p x a t h e = on x (first_refusal (legacy_tests c v r2 r3 b s)) refl h e
    where
      on : (x : Bool) (q : Option Numbers) → first_refusal (legacy_tests c v r2 r3 b s) ≡ q → x ≡ true
          → cond x (refuses a) (took (at (b + granule_size) t)) ≡ gated q (took (at (b + granule_size) (changed_at (same_change c) v b s))) → P a
      on false q i h e = never cc
      on true none i h e = never cc
      on true (some n) i h e =
          let same : n ≡ a = cc in
          rw same at (refusal_is P (legacy_tests c v r2 r3 b s) (p₁, (p₂, (p₃, (p, (p, (p₆, (p, tt))))))) n i)

  pub one_granule : OneGranule c v b r2 r3 s (hypercall_of v (registers r0 b r2 r3) s)
  unfolding called step hypercall_of KeptRefused numbers_of
  one_granule =
      let r = hypercall_of v (registers r0 b r2 r3) s in
      let a = numbers_of r.answer in
      record {
        step = is_step;
        done = λ h. (
          done_one (is_range_refusal a) a r.left h one_step,
          all_told (first_refusal tests) refl (reads (λ r. numbers_of r.answer) (λ n. n) refl refl refl refl) h,
        );
        none = λ h.
            step_kept (Hypercall v (registers r0 b r2 r3)) s
            (refused_by (λ n. is_refusal n ≡ true) refl refl refl refl refl (is_range_refusal a) a r.left h is_step);
        told = reads (λ r. (numbers_of r.answer).v1) (λ n. n.v1) refl refl refl refl ∙ on (first_refusal tests) refl;
      }
    where
      here : Place
      here = place s.map s.frames (granule_of b)

      all_told : (q : Option Numbers) → first_refusal tests ≡ q → {a : Numbers} → a ≡ unless q (λ n. n) (numbers_of (effected v s effect).answer)
          → is_range_refusal a ≡ false → a ≡ verdict_with 10 0
      all_told (some n) e is h = never (sym h ∙ ap is_range_refusal is ∙ refusal_is (λ n. is_range_refusal n ≡ true) tests (refl, (refl, (refl, (refl, tt)))) n e)
      all_told none e is h =
          is ∙ done_told v s here (table_step (operation_of (same_change c)) v here) (ap is_range_refusal (sym is) ∙ h)

      on : (q : Option Numbers) → first_refusal tests ≡ q → unless q (λ n. n.v1) (numbers_of (effected v s effect).answer).v1 ≡ 0
      on (some n) e = refusal_is (λ n. n.v1 ≡ 0) tests (refl, (refl, (refl, (refl, tt)))) n e
      on none e = none_told v s (onward (λ t. ended 0 t complete) (place s.map s.frames (granule_of b)) (table_step (operation_of (same_change c)) v (place s.map s.frames (granule_of b))))
