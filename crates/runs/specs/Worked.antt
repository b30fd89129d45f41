-- Worked cases: what the definitions give, beside what it has to be.
use Rattle.std.specs.Prelude.{◌≡◌, List, map}

pub record Case (A : Type 0) : Type 0 where
  pub found : A
  pub expected : A

-- each case of a table is found as expected
abbrev pub AsExpected : {A : Type 0} → List (Case A) → Type 0
AsExpected cases = map (λ c. c.found) cases ≡ map (λ c. c.expected) cases
