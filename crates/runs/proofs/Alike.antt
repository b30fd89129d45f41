-- Two steps that match under a change of state and of refusal, on the states that keep I, have runs that match.
use mathlib.Core.Path.{◌≡◌, refl, ap, ◌∙◌}
use Prim.Native.Nat.{ℕ, zero, suc}
use Rattle.runs.specs.Run.{Step, took, refuses, Stop, complete, refused, out_of_fuel, End, ended, one_more, onward, run}

module _ {R Q : Type 0} (h : R → Q) where
  abbrev pub map_stop : Stop R → Stop Q
  map_stop complete = complete
  map_stop (refused r) = refused (h r)
  map_stop out_of_fuel = out_of_fuel

module _ {S T R Q : Type 0} (f : S → T) (h : R → Q) where
  abbrev pub map_step : Step S R → Step T Q
  map_step (took s) = took (f s)
  map_step (refuses r) = refuses (h r)

  abbrev pub map_end : End S R → End T Q
  map_end (ended k s r) = ended k (f s) (map_stop h r)

  map_one : (e : End S R) → one_more (map_end e) ≡ map_end (one_more e)
  map_one (ended k s r) = refl

  module _ (I : S → Type 0) (step : S → Step S R) (other : T → Step T Q) (keeps : (s t : S) → I s → step s ≡ took t → I t)
      (like : (s : S) → I s → other (f s) ≡ map_step (step s)) where
    pub alike : (n : ℕ) (s : S) → I s → run other n (f s) ≡ map_end (run step n s)
    alike zero s i = refl
    alike (suc n) s i = rw (like s i) (on (λ t j. alike n t j) (step s) refl)
      where
        on : ((t : S) → I t → run other n (f t) ≡ map_end (run step n t)) → (o : Step S R) → step s ≡ o
            → onward (λ t. run other n t) (f s) (map_step o) ≡ map_end (onward (λ t. run step n t) s o)
        on ih (took t) e = ap one_more (ih t (keeps s t i e)) ∙ map_one (run step n t)
        on ih (refuses r) e = refl
