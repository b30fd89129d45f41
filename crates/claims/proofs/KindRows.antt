-- Where the kinds of guests part: the row that a hypercall goes by. What it comes to behind a row is said for any.
use mathlib.Core.Path.{◌≡◌, refl, ap, ◌∙◌}
use mathlib.Core.Bool.{Bool, true, false, ◌&&◌}
use mathlib.Core.List.{[], ◌∷◌, ◌++◌}
use mathlib.Core.Option.{Option, none, some}
use Prim.Native.Nat.{ℕ}
use lib.Dec.{ltb}
use lib.ListN.{length}
use Rattle.words.proofs.Booleans.{never, and_false, and_true}
use Rattle.tables.specs.Length.{lengths_hold}
use Rattle.records.specs.Monitor.{guest_of, live_in}
use Rattle.answers.specs.Answer.{verdict_with}
use Rattle.commands.specs.State.{State, Answered, answered}
use Rattle.commands.specs.Tests.{Tests, first_refusal}
use Rattle.commands.specs.Command.{Effect, unless_refused, view_of, effected}
use Rattle.answers.specs.declared.answer.Answer.{Answer}
use Rattle.answers.specs.declared.answer.Answer.TheVariants.{BadLength, NoGuest, NeverRun}
use Rattle.answers.specs.declared.answer.Numbers.{Numbers}
use Rattle.functions.specs.Function.{asked_by}
use Rattle.functions.specs.declared.rules.Registers.{Registers}
use Rattle.call_table.specs.Table.{ranged_row_of, legacy_row_of, call_row_of}
use Rattle.call_table.specs.declared.rows.CallRow.{CallRow}
use Rattle.guest_callers.specs.Callers.{caller_tests}
use Rattle.guest_hypercalls.specs.Calls.{row_tests, act_of, hypercall_of}
use Rattle.claims.specs.Pieces.{live_legacy}

-- a hypercall of slot v by the row w
abbrev pub by_row : ℕ → Registers → CallRow → State → Answered
by_row v r w s =
    let guest = guest_of s.monitor v in
    effected v s (unless_refused (first_refusal (caller_tests s.frames s.map v guest ++ row_tests w r guest)) (act_of r w.error w.action (view_of v s)))

module _ (v : ℕ) (r : Registers) (s : State) where
  by_kind : (k : Bool) → (guest_of s.monitor v).legacy ≡ k → hypercall_of v r s ≡ by_row v r (call_row_of k (asked_by r.r0)) s
  unfolding hypercall_of
  by_kind k e = ap (λ (x : Bool). by_row v r (call_row_of x (asked_by r.r0)) s) e

  -- where no guest is live, no row is looked at
  dead_row : (w u : CallRow) → (guest_of s.monitor v).live ≡ false → by_row v r w s ≡ by_row v r u s
  dead_row w u e =
      let guest = guest_of s.monitor v in
      on (lengths_hold (length s.frames) (length s.map)) (live_in v guest) guest.run (row_tests w r guest) (row_tests u r guest)
      (act_of r w.error w.action (view_of v s)) (act_of r u.error u.action (view_of v s)) (ap (λ x. ltb v 8 && x) e ∙ and_false (ltb v 8))
    where
      on : (a b c : Bool) (ts us : Tests Answer) (d f : Effect) → b ≡ false
          → effected v s (unless_refused (first_refusal ((a, BadLength) ∷ (b, NoGuest) ∷ (c, NeverRun) ∷ ts)) d)
          ≡ effected v s (unless_refused (first_refusal ((a, BadLength) ∷ (b, NoGuest) ∷ (c, NeverRun) ∷ us)) f)
      on false b c ts us d f h = refl
      on true false c ts us d f h = refl
      on true true c ts us d f h = never cc

  pub ranged_row : live_legacy v s ≡ false → hypercall_of v r s ≡ by_row v r (ranged_row_of (asked_by r.r0)) s
  ranged_row h = on (guest_of s.monitor v).legacy refl
    where
      on : (k : Bool) → (guest_of s.monitor v).legacy ≡ k → hypercall_of v r s ≡ by_row v r (ranged_row_of (asked_by r.r0)) s
      on false e = by_kind false e
      on true e =
          by_kind true e
          ∙ dead_row (legacy_row_of (asked_by r.r0)) (ranged_row_of (asked_by r.r0)) (rw (e, and_true (guest_of s.monitor v).live) at h)

  pub legacy_row : (guest_of s.monitor v).legacy ≡ true → hypercall_of v r s ≡ by_row v r (legacy_row_of (asked_by r.r0)) s
  legacy_row e = by_kind true e

-- what is read of a call: its refusal, or what its effect comes to
abbrev pub unless : {A : Type 0} → Option Numbers → (Numbers → A) → A → A
unless none refusal a = a
unless (some n) refusal a = refusal n

-- the tests before any granule, read in numbers; e with its numbers n is the error of the call
module _ {A : Type 0} (read : Answered → A) (refusal : Numbers → A) (v : ℕ) (s : State) (e : Answer) (n : Numbers)
    (bad-length : read (answered s BadLength) ≡ refusal (verdict_with 1 0)) (no-guest : read (answered s NoGuest) ≡ refusal (verdict_with 2 0))
    (never-run : read (answered s NeverRun) ≡ refusal (verdict_with 3 0)) (error : read (answered s e) ≡ refusal n) where
  pub tests_read : (x₁ x₂ x₃ x₄ x₅ : Bool) (d : Effect)
      → read (effected v s (unless_refused (first_refusal ((x₁, BadLength) ∷ (x₂, NoGuest) ∷ (x₃, NeverRun) ∷ (x₄, e) ∷ (x₅, e) ∷ [])) d))
      ≡ unless (first_refusal ((x₁, verdict_with 1 0) ∷ (x₂, verdict_with 2 0) ∷ (x₃, verdict_with 3 0) ∷ (x₄, n) ∷ (x₅, n) ∷ [])) refusal (read (effected v s d))
  tests_read false x₂ x₃ x₄ x₅ d = bad-length
  tests_read true false x₃ x₄ x₅ d = no-guest
  tests_read true true false x₄ x₅ d = never-run
  tests_read true true true false x₅ d = error
  tests_read true true true true false d = error
  tests_read true true true true true d = refl
