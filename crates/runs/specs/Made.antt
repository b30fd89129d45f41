-- Which calls carrying on makes, each by the state that it is made in: the same recursion as `carry_on` and `pieces` in Run.
use Rattle.std.specs.Prelude.{List, [], ◌∷◌, ◌++◌, ℕ, zero, suc, ◌-◌, ◌<◌}
use Rattle.runs.specs.Run.{complete, refused, out_of_fuel, End, ended, carry_on}

module _ {S R : Type 0} where
  -- as in `go_on`: a call that refuses, or is out of fuel, is the last
  abbrev pub further : (ℕ → S → List S) → ℕ → End S R → List S
  further more m (ended k s complete) = more (m - k) s
  further more m (ended k s (refused r)) = []
  further more m (ended k s out_of_fuel) = []

  abbrev pub calls_carried : (ℕ → S → End S R) → ℕ → ℕ → S → List S
  calls_carried call zero m s = []
  calls_carried call (suc fuel) zero s = []
  calls_carried call (suc fuel) (suc m) s = s ∷ further (λ k t. calls_carried call fuel k t) (suc m) (call (suc m) s)

  -- as in `and_then`
  abbrev pub next_piece : (S → List S) → End S R → List S
  next_piece more (ended k s complete) = more s
  next_piece more (ended k s (refused r)) = []
  next_piece more (ended k s out_of_fuel) = []

  -- the states in which the calls for a list of pieces are made, in turn
  abbrev pub calls_made : (ℕ → S → End S R) → List ℕ → S → List S
  calls_made call [] s = []
  calls_made call (m ∷ ms) s = calls_carried call m m s ++ next_piece (λ t. calls_made call ms t) (carry_on call m m s)

module _ {S : Type 0} where
  -- P of each state of a list
  abbrev pub Every : (S → Type 0) → List S → Type 0
  Every P [] = Unit {0}
  Every P (s ∷ ss) = P s × Every P ss

  -- f is greater of each state of a list than of any before it
  abbrev pub Rising : (S → ℕ) → List S → Type 0
  Rising f [] = Unit {0}
  Rising f (s ∷ ss) = Every (λ t. f s < f t) ss × Rising f ss
