-- The 64 bits of a signed number, by its sign.
use mathlib.Core.Path.{◌≡◌, refl, ap}
use mathlib.Core.Bool.{true, false}
use Prim.Native.Nat.{ℕ, suc, ◌-◌, ◌<◌, ◌^◌}
use native.Mathlib.Omega.{arith}
use borrow.Author.Tests.{le-ltb, leb-false}
use lib.Dec.{T}
use lib.IntN.{ℤ, pos, negsuc, nat_abs, ◌-ℤ◌}
use lib.Signed.{le_z, non_neg}
use mir.Syntax.{w64}
use mir.Val.{Fits, SFits}
use Rattle.words.specs.Register.{register_of}
use Rattle.words.proofs.Booleans.{never}

-- at or above zero, the number itself
pub high_fits : (x : ℤ) → SFits w64 x → le_z (pos 0) x ≡ true → T (non_neg x) × Fits w64 (nat_abs x)
high_fits (pos n) f h = (tt, record { fits = omega arith })
high_fits (negsuc n) f h = never cc

pub high_bits : (x : ℤ) → le_z (pos 0) x ≡ true → nat_abs x ≡ register_of x
high_bits (pos n) h = refl
high_bits (negsuc n) h = never cc

-- below zero, −1 − x is not negative, and has x's bits turned over
flipped : (n : ℕ) → negsuc 0 -ℤ negsuc n ≡ pos n
flipped n = rw (le-ltb (suc n) 1 (omega arith)) (ap pos (omega arith))

pub low : (x : ℤ) → SFits w64 x → le_z (pos 0) x ≡ false
    → (n : ℕ) × (negsuc 0 -ℤ x ≡ pos n) × (n < 2 ^ 63) × (2 ^ 64 - 1 - n ≡ register_of x)
low (pos n) f h = absurd (omega (arith, leb-false 0 n h))
low (negsuc n) f h = (n, flipped n, f.sfits, omega arith)
