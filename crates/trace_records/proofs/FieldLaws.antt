-- Laws of the fields of a record: the number of some bytes as it grows by one, and why it fits.
use mathlib.Core.Path.{◌≡◌, refl}
use mathlib.Core.List.{List, [], ◌∷◌, ◌++◌}
use Prim.Native.Nat.{ℕ, ◌+◌, ◌*◌, ◌^◌, ◌<◌, ◌≤◌}
use native.Mathlib.Nat.{pow-suc, pow-le-pow_right}
use native.Mathlib.Numerals.{add-one}
use native.Mathlib.Omega.{arith}
use lib.ListN.{length, get_or, take}
use lib.Seq.{take-suc}
use Rattle.trace_records.specs.Record.{value_behind, big_endian}

-- a byte behind the others
value_behind_more : (n : ℕ) (xs : List ℕ) (b : ℕ) → value_behind n (xs ++ (b ∷ [])) ≡ value_behind n xs * 256 + b
value_behind_more n [] b = refl
value_behind_more n (x ∷ xs) b = value_behind_more (n * 256 + x) xs b

-- the number of some first bytes, and of one byte more
pub big_endian_more : (s : List ℕ) (i : ℕ) → i < length s → big_endian (take (i + 1) s) ≡ big_endian (take i s) * 256 + get_or s i 0
big_endian_more s i h = rw (add-one, take-suc s i 0) (value_behind_more 0 (take i s) (get_or s i 0))

-- a number of i bytes, and one byte more
pub below_more_bytes : (value i b : ℕ) → value < 256 ^ i → b < 256 → value * 256 + b < 256 ^ (i + 1)
below_more_bytes value i b v h = rw (add-one, pow-suc) (omega arith)

pub eight_bytes_fit : (value i : ℕ) → value < 256 ^ i → i ≤ 8 → value < 2 ^ 64
eight_bytes_fit value i v h = omega (arith, pow-le-pow_right {n = 256} (omega arith) {j = 8} h)
