-- Document 01, "Ranges for demand 3", for any single step: the steps taken singly, the calls that carry a piece on, and a list of pieces.
-- A state S holds all that a step changes, its place in the range too; R is a refusal.
use Rattle.std.specs.Prelude.{List, [], ◌∷◌, ℕ, zero, suc, ◌+◌, ◌-◌}
use Rattle.std.proofs.Math.Option.{Option, none, some}

-- one step: the state after it, or a refusal, which leaves the state
pub data Step (S R : Type 0) : Type 0 where
  took : S → Step S R
  refuses : R → Step S R

-- why a run stopped: it reached its count, a step was refused, or the definition ran out of fuel, which is neither
pub data Stop (R : Type 0) : Type 0 where
  complete : Stop R
  refused : R → Stop R
  out_of_fuel : Stop R

-- how a run ended: the steps done, the state that it left, and why it stopped
pub data End (S R : Type 0) : Type 0 where
  ended : ℕ → S → Stop R → End S R

abbrev pub sum : List ℕ → ℕ
sum [] = 0
sum (m ∷ ms) = m + sum ms

module _ {S R : Type 0} where
  -- why a run stopped
  abbrev pub stop_of : End S R → Stop R
  stop_of (ended d s r) = r

  -- a step behind tests that come before it: the first that fails is the refusal
  abbrev pub gated : Option R → Step S R → Step S R
  gated none o = o
  gated (some r) o = refuses r

  -- an end with one step, or k, done before it
  abbrev pub one_more : End S R → End S R
  one_more (ended d s r) = ended (suc d) s r

  abbrev pub after : ℕ → End S R → End S R
  after k (ended d s r) = ended (k + d) s r

  -- a run that goes on by `more` after its first step
  abbrev pub onward : (S → End S R) → S → Step S R → End S R
  onward more s (took t) = one_more (more t)
  onward more s (refuses r) = ended 0 s (refused r)

  -- "the first test that fails ends it with that refusal"; else it ends at n steps, not refused
  abbrev pub run : (S → Step S R) → ℕ → S → End S R
  run step zero s = ended 0 s complete
  run step (suc n) s = onward (λ t. run step n t) s (step s)

  -- after a call that did k of a piece of m: "if it doesn't refuse and answers R1 = k below m, carry on m − k"
  abbrev pub go_on : (ℕ → S → End S R) → ℕ → End S R → End S R
  go_on more m (ended k s complete) = after k (more (m - k) s)
  go_on more m (ended k s (refused r)) = ended k s (refused r)
  go_on more m (ended k s out_of_fuel) = ended k s out_of_fuel

  -- "stop when none is left or a call refuses"; the first number is fuel, one for each call
  abbrev pub carry_on : (ℕ → S → End S R) → ℕ → ℕ → S → End S R
  carry_on call zero zero s = ended 0 s complete
  carry_on call zero (suc m) s = ended 0 s out_of_fuel
  carry_on call (suc fuel) zero s = ended 0 s complete
  carry_on call (suc fuel) (suc m) s = go_on (λ k t. carry_on call fuel k t) (suc m) (call (suc m) s)

  -- go on by `more` unless it stopped short
  abbrev pub and_then : End S R → (S → End S R) → End S R
  and_then (ended k s complete) more = after k (more s)
  and_then (ended k s (refused r)) more = ended k s (refused r)
  and_then (ended k s out_of_fuel) more = ended k s out_of_fuel

  -- the pieces in turn, each carried on with a call for each of its steps at the most
  abbrev pub pieces : (ℕ → S → End S R) → List ℕ → S → End S R
  pieces call [] s = ended 0 s complete
  pieces call (m ∷ ms) s = and_then (carry_on call m m s) (λ t. pieces call ms t)
