-- Granules and addresses turn into each other without loss.
use mathlib.Core.Path.{◌≡◌}
use mathlib.Core.Bool.{true}
use Prim.Native.Nat.{ℕ, ◌%◌}
use native.Mathlib.Omega.{arith}
use borrow.Author.Tests.{eqb-true}
use Rattle.words.specs.Granule.{granule_size, granule_of, is_base, address_of}

pub granule_address : (g : ℕ) → granule_of (address_of g) ≡ g
granule_address g = omega arith

pub address_granule : (a : ℕ) → is_base a ≡ true → address_of (granule_of a) ≡ a
address_granule a h = omega (arith, eqb-true (a % granule_size) 0 h)
