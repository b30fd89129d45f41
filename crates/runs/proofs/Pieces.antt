-- A range call that tells of at most `limit` single steps in every state with I, which the steps keep, carried on from such a state over any list
-- of pieces, ends as the steps taken singly at their sum.
-- Each call does at least one step or refuses, so a piece of m needs at most m calls, and fuel does not run out.
use mathlib.Core.Path.{◌≡◌, refl, sym, ap, ◌∙◌}
use mathlib.Core.List.{List, [], ◌∷◌}
use Prim.Native.Nat.{ℕ, zero, suc, ◌-◌, ◌≤◌, min}
use native.Mathlib.Nat.{le_refl, sub-zero}
use native.Mathlib.Omega.{arith}
use Rattle.runs.specs.Run.{Step, took, refuses, complete, refused, out_of_fuel, End, ended, sum, one_more, after, onward, run, go_on, carry_on, and_then, pieces, stop_of}
use Rattle.runs.proofs.Kept.{Holds, kept}
use Rattle.runs.proofs.Runs.{resume, resume_one, resumes, joins, run_fuelled}

module _ {S R : Type 0} where
  -- "If at least one was done it answers 0, and R1 is the number .. If none was done" it refuses
  abbrev pub told : End S R → End S R
  told (ended zero s r) = ended zero s r
  told (ended (suc k) s r) = ended (suc k) s complete

  -- a range call for m steps: it takes at most `limit` of them and tells how many
  abbrev pub range_call : (S → Step S R) → ℕ → ℕ → S → End S R
  range_call step limit m s = told (run step (min limit m) s)

module _ {S R : Type 0} (I : S → Type 0) (step : S → Step S R) (keeps : (s t : S) → I s → step s ≡ took t → I t)
    (limit : ℕ) (some : 1 ≤ limit) (call : ℕ → S → End S R) (law : (m : ℕ) (s : S) → 1 ≤ m → I s → call m s ≡ range_call step limit m s) where
  -- I of the state that a run leaves
  abbrev Left : End S R → Type 0
  Left = Holds (λ k s. I s) 0

  pub left : (n : ℕ) (s : S) → I s → Left (run step n s)
  left n s i = kept (λ k s. I s) step (λ k s t j e. keeps s t j e) n 0 s i

  -- what is left after a call of a piece of m + 1 whose run was cut at n + 1 steps
  rest : (f n m : ℕ) (s : S) → n ≤ m → m ≤ f → I s → ((k : ℕ) (t : S) → k ≤ f → I t → carry_on call f k t ≡ run step k t) → (o : Step S R) → step s ≡ o
      → go_on (λ k t. carry_on call f k t) (suc m) (told (onward (λ t. run step n t) s o)) ≡ onward (λ t. run step m t) s o
  rest f n m s h hf i ih (took t) e =
      again (run step n t) (left n t (keeps s t i e)) ∙ resume_one step m (run step n t) ∙ ap one_more (resumes step n m t h)
    where
      again : (e : End S R) → Left e → go_on (λ k t. carry_on call f k t) (suc m) (told (one_more e)) ≡ resume step (suc m) (one_more e)
      again (ended k u r) j = ap (after (suc k)) (ih (suc m - suc k) u (omega arith) j)
  rest f n m s h hf i ih (refuses r) e = refl

  -- a piece carried on ends as its steps taken singly
  pub carried : (f m : ℕ) (s : S) → m ≤ f → I s → carry_on call f m s ≡ run step m s
  carried zero zero s h i = refl
  carried zero (suc m) s h i = absurd (omega arith)
  carried (suc f) zero s h i = refl
  carried (suc f) (suc m) s h i =
      let cut : min limit (suc m) ≡ suc (min limit (suc m) - 1) = omega arith in
      rw (law (suc m) s (omega arith) i, cut)
      (rest f (min limit (suc m) - 1) m s (omega arith) (omega arith) i (λ k t l j. carried f k t l j) (step s) refl)

  -- every list of pieces ends as the single steps at the sum: steps done, state and refusal
  pub pieces_run : (ms : List ℕ) (s : S) → I s → pieces call ms s ≡ run step (sum ms) s
  pieces_run [] s i = refl
  pieces_run (m ∷ ms) s i = rw (carried m m s (le_refl m) i) (on (λ t j. pieces_run ms t j) (run step m s) (left m s i) ∙ joins step m (sum ms) s)
    where
      on : ((t : S) → I t → pieces call ms t ≡ run step (sum ms) t) → (e : End S R) → Left e
          → and_then e (λ t. pieces call ms t) ≡ and_then e (λ t. run step (sum ms) t)
      on ih (ended k t complete) j = ap (after k) (ih t j)
      on ih (ended k t (refused r)) j = refl
      on ih (ended k t out_of_fuel) j = refl

  -- and so no list of pieces runs out of fuel
  pub pieces_fuelled : (ms : List ℕ) (s : S) → I s → stop_of (pieces call ms s) ≡ out_of_fuel → ⊥
  pieces_fuelled ms s i e = run_fuelled step (sum ms) s (sym (ap stop_of (pieces_run ms s i)) ∙ e)

module _ {S R : Type 0} where
  -- a call that does nothing and does not refuse is no success: its piece is out of fuel, however much it had
  pub no_progress : (f m : ℕ) (s : S) → carry_on {S = S} {R = R} (λ k t. ended 0 t complete) f (suc m) s ≡ ended 0 s out_of_fuel
  no_progress zero m s = refl
  no_progress (suc f) m s = rw (sub-zero, no_progress f m s)
