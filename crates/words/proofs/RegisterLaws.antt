-- A signed number and its 64 bits, by the sign.
use mathlib.Core.Path.{◌≡◌, refl, ap, ◌∙◌}
use Prim.Native.Nat.{ℕ, ◌<◌, ◌^◌}
use lib.IntN.{ℤ, pos, negsuc}
use mir.Syntax.{w64}
use mir.Val.{SFits, of_z, to_z}
use mir.ValLaws.{to_z-of_z}
use Rattle.words.specs.Register.{register_of}

register_bits : (x : ℤ) → register_of x ≡ of_z w64 x
register_bits (pos n) = refl
register_bits (negsuc n) = refl

-- without loss: the bits read as signed are the number again
pub register_lossless : (x : ℤ) → SFits w64 x → to_z w64 (register_of x) ≡ x
register_lossless x h = ap (to_z w64) (register_bits x) ∙ to_z-of_z w64 x h

-- bits below the sign bit read as signed are the number itself
pub zero_extended : (n : ℕ) → n < 2 ^ 63 → to_z w64 n ≡ pos n
zero_extended n h = to_z-of_z w64 (pos n) (record { sfits = h })
