-- Tests before a step that stay passed while the run goes on need testing only once.
use mathlib.Core.Path.{◌≡◌, refl, ap}
use mathlib.Core.Option.{Option, none}
use Prim.Native.Nat.{ℕ, zero, suc}
use Rattle.runs.specs.Run.{Step, took, refuses, one_more, onward, gated, run}

-- a step behind tests of the state
abbrev pub gate : {S R : Type 0} → (S → Option R) → (S → Step S R) → S → Step S R
gate tests step s = gated (tests s) (step s)

module _ {S R : Type 0} (tests : S → Option R) (step : S → Step S R)
    (stays : (s t : S) → tests s ≡ none → step s ≡ took t → tests t ≡ none) where
  pub passed : (n : ℕ) (s : S) → tests s ≡ none → run (gate tests step) n s ≡ run step n s
  passed zero s h = refl
  passed (suc n) s h = rw h (on (λ t u. passed n t u) (step s) refl)
    where
      on : ((t : S) → tests t ≡ none → run (gate tests step) n t ≡ run step n t) → (o : Step S R) → step s ≡ o
          → onward (λ t. run (gate tests step) n t) s o ≡ onward (λ t. run step n t) s o
      on ih (took t) e = ap one_more (ih t (stays s t h e))
      on ih (refuses r) e = refl
