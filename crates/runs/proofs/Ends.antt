-- Counting steps done before an end.
use mathlib.Core.Path.{◌≡◌}
use Prim.Native.Nat.{ℕ, suc}
use native.Mathlib.Nat.{zero-add, suc-add}
use Rattle.runs.specs.Run.{End, ended, one_more, after}

module _ {S R : Type 0} where
  pub after_zero : (e : End S R) → after 0 e ≡ e
  after_zero (ended d s r) = rw zero-add

  pub after_suc : (k : ℕ) (e : End S R) → after (suc k) e ≡ one_more (after k e)
  after_suc k (ended d s r) = rw suc-add
