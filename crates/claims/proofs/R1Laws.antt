-- A call of m granules tells of a run of at least one step: it did some, and they differ, or it was refused at the first, and nothing changed.
use mathlib.Core.Path.{◌≡◌, refl, ap, ◌∙◌}
use mathlib.Core.Bool.{Bool, true, false, cond, ◌&&◌}
use mathlib.Core.List.{[], ◌∷◌}
use Prim.Native.Nat.{ℕ, zero, suc, ◌+◌, ◌*◌, ◌-◌, ◌%◌, ◌≤◌, ◌^◌, min}
use native.Mathlib.Omega.{arith}
use Rattle.runs.specs.Run.{Step, took, refuses, Stop, complete, refused, End, ended, one_more, onward, run}
use Rattle.runs.proofs.Runs.{count_of, run_at_most}
use Rattle.runs.proofs.Pieces.{told}
use lib.ListN.{length}
use Rattle.words.specs.Granule.{granule_size, is_base}
use Rattle.words.proofs.Booleans.{never, and_false}
use Rattle.tables.specs.Length.{lengths_hold}
use Rattle.answers.specs.Answer.{numbers_of}
use Rattle.commands.specs.State.{State, Answered, answered}
use Rattle.commands.specs.Tests.{first_refusal}
use Rattle.commands.specs.Command.{Effect, unless_refused, view_of, effected}
use Rattle.records.specs.Monitor.{guest_of, live_in}
use Rattle.answers.specs.declared.answer.Answer.{Answer}
use Rattle.answers.specs.declared.answer.Answer.TheVariants.{BadLength, NoGuest, NeverRun}
use Rattle.answers.specs.declared.answer.Numbers.{Numbers}
use Rattle.ranges.specs.Range.{range_limit}
use Rattle.functions.specs.Function.{function_of, asked_by}
use Rattle.functions.specs.Rules.{registers, error_answer}
use Rattle.call_table.specs.Table.{call_row, ranged_row_of}
use Rattle.call_table.specs.declared.rows.Action.{Action}
use Rattle.call_table.specs.declared.rows.Action.TheVariants as action
use Rattle.call_table.specs.declared.rows.Count.TheVariants.{Asked, AskedOrOne}
use Rattle.granules.specs.Kind.{sharing, unsharing, guarding, unguarding}
use Rattle.granules.specs.declared.kinds.Operation.{Operation}
use Rattle.functions.specs.declared.numbers.Function.{Function}
use Rattle.functions.specs.declared.numbers.Function.TheVariants.{Share, Unshare, RangeGuardMap, RangeGuardUnmap}
use Rattle.functions.specs.declared.rules.Rule.TheVariants.{Any, NotZero, Base}
use Rattle.functions.specs.declared.rules.Condition.TheVariants.{Enrolment}
use Rattle.functions.specs.declared.rules.Error.TheVariants.{NotSupported}
use Rattle.guest_hypercalls.specs.Calls.{act_of, hypercall_of}
use Rattle.claims.specs.SingleSteps.{RangeCall, share, unshare, range_guard_map, range_guard_unmap, number_of, At, at, single_step}
use Rattle.claims.specs.Pieces.{is_range_refusal, call_at, differing, CountsChanges, live_legacy}
use Rattle.claims.specs.R1.{TellsChanges}
use Rattle.claims.proofs.KindRows.{ranged_row}
use Rattle.claims.proofs.CallAgrees.{function_by, number_asked, call_agrees}
use Rattle.claims.proofs.Changes.{single_steps_count}

-- a run of one step or more did some, or was refused where it began
data Shape (s : At) : End At Numbers → Type 0 where
  some : (k : ℕ) (b : ℕ) (t : State) (r : Stop Numbers) → Shape s (ended (suc k) (at b t) r)
  first : (r : Numbers) → Shape s (ended 0 s (refused r))

run_shape : (step : At → Step At Numbers) (n : ℕ) (s : At) → Shape s (run step (suc n) s)
run_shape step n s = on (step s)
  where
    more : (e : End At Numbers) → Shape s (one_more e)
    more (ended k (at b t) r) = some k b t r

    on : (o : Step At Numbers) → Shape s (onward (λ t. run step n t) s o)
    on (took t) = more (run step n t)
    on (refuses r) = first r

-- an answer a with the state t at b, that reads as what a run told
read_told : (s t : State) (b : ℕ) (a : Numbers) (e : End At Numbers) → Shape (at b s) e → count_of e ≤ range_limit → CountsChanges s e
    → (x : Bool) → cond x (ended 0 (at b t) (refused a)) (ended a.v1 (at (b + granule_size * a.v1) t) complete) ≡ told e
    → (x ≡ false → (1 ≤ a.v1) × (a.v1 ≤ range_limit) × (a.v1 ≡ differing s.map t.map)) × (x ≡ true → t ≡ s)
read_told s t b a e (some k b' t' r) few counts false h =
    let told-count : a.v1 ≡ suc k = cc in
    let same : t ≡ t' = cc in
    (λ z. (omega arith, omega arith, told-count ∙ counts ∙ rw same), λ z. let y : ◌≡◌ {A = ℕ} 0 1 = cc in absurd (omega arith))
read_told s t b a e (some k b' t' r) few counts true h = let z : ◌≡◌ {A = ℕ} 0 (suc k) = cc in absurd (omega arith)
read_told s t b a e (first r) few counts false h = never cc
read_told s t b a e (first r) few counts true h = (λ z. let y : ◌≡◌ {A = ℕ} 0 1 = cc in absurd (omega arith), λ z. cc)

module _ (c : RangeCall) (r0 : ℕ) (number : r0 % 2 ^ 32 ≡ number_of c) (v b r3 : ℕ) (s : State) (ranged : live_legacy v s ≡ false) where
  called : ℕ → Answered
  called m = hypercall_of v (registers r0 b m r3) s

  -- a call with a count of 1 or more
  counted : (m : ℕ) → 1 ≤ m → TellsChanges s (called m)
  unfolding called
  counted m h =
      let n = min range_limit m - 1 in
      let steps : min range_limit m ≡ suc n = omega arith in
      let e = run (single_step c v r3) (suc n) (at b s) in
      let few = run_at_most (single_step c v r3) (suc n) (at b s) in
      let reads : call_at (λ a. r0) v r3 m (at b s) ≡ told e = rw steps at (call_agrees c (λ a. r0) (λ a. number) v r3 m (at b s) h ranged) in
      let a = numbers_of (called m).answer in
      let p = read_told s (called m).left b a e (run_shape (single_step c v r3) n (at b s)) (omega arith) (single_steps_count c v r3 s (suc n) b) (is_range_refusal a) reads in
      record { done = p.0; none = p.1 }

  -- "Count 0 means 1 for share and unshare"
  zero_is_one : (f : Function) (o : Operation) → asked_by r0 ≡ f → (ranged_row_of f).action ≡ action.Change o AskedOrOne → (ranged_row_of f).r2 ≡ Any
      → called 0 ≡ called 1
  unfolding called act_of
  zero_is_one f o e same any = rw (ranged_row v (registers r0 b 0 r3) s ranged, ranged_row v (registers r0 b 1 r3) s ranged, e, same, any)

  refused_tells : (a : Answer) → is_range_refusal (numbers_of a) ≡ true → TellsChanges s (answered s a)
  refused_tells a h = record { done = λ e. never cc; none = λ e. refl }

  -- "a range guard call with count 0 answers NS"
  registers_wrong : (x₁ x₂ x₃ x₄ x₅ : Bool) (done : Effect) → x₄ ≡ false
      → TellsChanges s
      (effected v s
      (unless_refused (first_refusal ((x₁, BadLength) ∷ (x₂, NoGuest) ∷ (x₃, NeverRun) ∷ (x₄, error_answer NotSupported) ∷ (x₅, error_answer NotSupported) ∷ [])) done))
  unfolding numbers_of
  registers_wrong false x₂ x₃ x₄ x₅ done h = refused_tells BadLength refl
  registers_wrong true false x₃ x₄ x₅ done h = refused_tells NoGuest refl
  registers_wrong true true false x₄ x₅ done h = refused_tells NeverRun refl
  registers_wrong true true true x₄ x₅ done h = rw h (refused_tells (error_answer NotSupported) refl)

  zero_refused : (f : Function) (a : Action) → asked_by r0 ≡ f → ranged_row_of f ≡ call_row Base NotZero Any Enrolment NotSupported a → TellsChanges s (called 0)
  unfolding called
  zero_refused f a e same =
      let guest = guest_of s.monitor v in
      rw (ranged_row v (registers r0 b 0 r3) s ranged, e, same)
      (registers_wrong (lengths_hold (length s.frames) (length s.map)) (live_in v guest) guest.run (is_base b && false) guest.enrolled
      (act_of (registers r0 b 0 r3) NotSupported a (view_of v s)) (and_false (is_base b)))

  zero_count : TellsChanges s (called 0)
  unfolding ranged_row_of
  zero_count = on c (ap function_of number ∙ number_asked c)
    where
      on : (c : RangeCall) → asked_by r0 ≡ function_by c → TellsChanges s (called 0)
      on share e = rw (zero_is_one Share sharing e refl refl) (counted 1 (omega arith))
      on unshare e = rw (zero_is_one Unshare unsharing e refl refl) (counted 1 (omega arith))
      on range_guard_map e = zero_refused RangeGuardMap (action.Change guarding Asked) e refl
      on range_guard_unmap e = zero_refused RangeGuardUnmap (action.Change unguarding Asked) e refl

  pub tells_changes : (m : ℕ) → TellsChanges s (hypercall_of v (registers r0 b m r3) s)
  unfolding called
  tells_changes zero = zero_count
  tells_changes (suc m) = counted (suc m) (omega arith)
