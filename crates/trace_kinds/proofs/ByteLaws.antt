-- A byte that is there is read, whatever stands for one that is not.
use mathlib.Core.Path.{◌≡◌, refl}
use mathlib.Core.List.{List, [], ◌∷◌}
use Prim.Native.Nat.{ℕ, suc, zero, ◌<◌}
use native.Mathlib.Omega.{arith}
use lib.ListN.{length, get_or}

-- so what stands for one that is not may be any number
pub read_within : (s : List ℕ) (i d e : ℕ) → i < length s → get_or s i d ≡ get_or s i e
read_within [] i d e h = absurd (omega arith)
read_within (x ∷ xs) zero d e h = refl
read_within (x ∷ xs) (suc i) d e h = read_within xs i d e (omega arith)
