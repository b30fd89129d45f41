-- A run that was cut and goes on is the whole run: both by induction on the steps before the cut.
use mathlib.Core.Path.{◌≡◌, refl, sym, ap, ◌∙◌}
use Prim.Native.Nat.{ℕ, zero, suc, ◌+◌, ◌-◌, ◌≤◌}
use native.Mathlib.Nat.{sub-zero, zero-add, suc-add, suc-sub-suc}
use native.Mathlib.Omega.{arith}
use Rattle.runs.specs.Run.{Step, took, refuses, complete, refused, out_of_fuel, End, ended, one_more, after, onward, run, and_then, stop_of}
use Rattle.runs.proofs.Ends.{after_zero, after_suc}

-- the steps that were done
abbrev pub count_of : {S R : Type 0} → End S R → ℕ
count_of (ended d s r) = d

-- an end with nothing done stands at s
abbrev pub StandsAt : {S R : Type 0} → S → End S R → Type 0
StandsAt s (ended zero t r) = t ≡ s
StandsAt s (ended (suc k) t r) = Unit {0}

module _ {S R : Type 0} (step : S → Step S R) where
  -- from an end on, towards m steps in all
  abbrev pub resume : ℕ → End S R → End S R
  resume m (ended k s r) = after k (run step (m - k) s)

  pub resume_one : (m : ℕ) (e : End S R) → resume (suc m) (one_more e) ≡ one_more (resume m e)
  resume_one m (ended k s r) = rw suc-sub-suc (after_suc k (run step (m - k) s))

  -- a run that was cut after n steps, or refused before, and goes on from where it stood
  pub resumes : (n m : ℕ) (s : S) → n ≤ m → resume m (run step n s) ≡ run step m s
  resumes zero m s h = rw sub-zero (after_zero (run step m s))
  resumes (suc n) zero s h = absurd (omega arith)
  resumes (suc n) (suc m) s h = on (λ t. resumes n m t (omega arith)) (step s) refl
    where
      on : ((t : S) → resume m (run step n t) ≡ run step m t) → (o : Step S R) → step s ≡ o
          → resume (suc m) (onward (λ t. run step n t) s o) ≡ onward (λ t. run step m t) s o
      on ih (took t) e = resume_one m (run step n t) ∙ ap one_more (ih t)
      on ih (refuses r) e = let again : run step (suc m) s ≡ ended 0 s (refused r) = rw e in rw (sub-zero, after_zero) again

  -- a steps and then b are a + b
  pub joins : (a b : ℕ) (s : S) → and_then (run step a s) (run step b) ≡ run step (a + b) s
  joins zero b s = rw zero-add (after_zero (run step b s))
  joins (suc a) b s = rw suc-add (on (λ t. joins a b t) (step s))
    where
      one : (e : End S R) → and_then (one_more e) (run step b) ≡ one_more (and_then e (run step b))
      one (ended k s complete) = after_suc k (run step b s)
      one (ended k s (refused r)) = refl
      one (ended k s out_of_fuel) = refl

      on : ((t : S) → and_then (run step a t) (run step b) ≡ run step (a + b) t) → (o : Step S R)
          → and_then (onward (λ t. run step a t) s o) (run step b) ≡ onward (λ t. run step (a + b) t) s o
      on ih (took t) = one (run step a t) ∙ ap one_more (ih t)
      on ih (refuses r) = refl

  -- a run does at most the steps that it is asked for
  pub run_at_most : (n : ℕ) (s : S) → count_of (run step n s) ≤ n
  run_at_most zero s = omega arith
  run_at_most (suc n) s = on (λ t. run_at_most n t) (step s)
    where
      one : (e : End S R) → count_of e ≤ n → count_of (one_more e) ≤ suc n
      one (ended k s r) h = omega arith

      on : ((t : S) → count_of (run step n t) ≤ n) → (o : Step S R) → count_of (onward (λ t. run step n t) s o) ≤ suc n
      on ih (took t) = one (run step n t) (ih t)
      on ih (refuses r) = omega arith

  -- a run that did nothing stands where it began
  pub run_none : (n : ℕ) (s : S) → StandsAt s (run step n s)
  run_none zero s = refl
  run_none (suc n) s = on (step s)
    where
      one : (e : End S R) → StandsAt s (one_more e)
      one (ended k t r) = tt

      on : (o : Step S R) → StandsAt s (onward (λ t. run step n t) s o)
      on (took t) = one (run step n t)
      on (refuses r) = refl

  -- a run needs no fuel
  pub run_fuelled : (n : ℕ) (s : S) → stop_of (run step n s) ≡ out_of_fuel → ⊥
  run_fuelled zero s e = let z : ◌≡◌ {A = ℕ} 0 1 = cc in omega arith
  run_fuelled (suc n) s e = on (λ t. run_fuelled n t) (step s) e
    where
      one : (e : End S R) → stop_of (one_more e) ≡ stop_of e
      one (ended k s r) = refl

      on : ((t : S) → stop_of (run step n t) ≡ out_of_fuel → ⊥) → (o : Step S R) → stop_of (onward (λ t. run step n t) s o) ≡ out_of_fuel → ⊥
      on ih (took t) e = ih t (sym (one (run step n t)) ∙ e)
      on ih (refuses r) e = let z : ◌≡◌ {A = ℕ} 0 1 = cc in omega arith
