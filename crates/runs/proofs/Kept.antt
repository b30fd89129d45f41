-- What holds at the start and over each step, of the steps done and the state, holds at a run's end.
use mathlib.Core.Path.{◌≡◌, refl}
use Prim.Native.Nat.{ℕ, zero, suc, ◌+◌}
use native.Mathlib.Nat.{add-zero, add-suc, suc-add}
use Rattle.runs.specs.Run.{Step, took, refuses, End, ended, one_more, onward, run}

module _ {S R : Type 0} (P : ℕ → S → Type 0) where
  -- P of an end that comes after j steps
  abbrev pub Holds : ℕ → End S R → Type 0
  Holds j (ended k s r) = P (j + k) s

  holds_one : (j : ℕ) (e : End S R) → Holds (suc j) e → Holds j (one_more e)
  holds_one j (ended k s r) h = rw add-suc (rw suc-add at h)

  module _ (step : S → Step S R) (next : (k : ℕ) (s t : S) → P k s → step s ≡ took t → P (suc k) t) where
    pub kept : (n j : ℕ) (s : S) → P j s → Holds j (run step n s)
    kept zero j s p = rw add-zero p
    kept (suc n) j s p = on (λ t q. kept n (suc j) t q) (step s) refl
      where
        on : ((t : S) → P (suc j) t → Holds (suc j) (run step n t)) → (o : Step S R) → step s ≡ o
            → Holds j (onward (λ t. run step n t) s o)
        on ih (took t) e = holds_one j (run step n t) (ih t (next j s t p e))
        on ih (refuses r) e = rw add-zero p
