-- How many words differ, after one more was set.
use mathlib.Core.Path.{◌≡◌, refl, sym}
use mathlib.Core.Logic.{◌≢◌}
use mathlib.Core.Bool.{Bool, true, false, cond}
use mathlib.Core.List.{List, [], ◌∷◌}
use Prim.Native.Nat.{ℕ, zero, suc, ◌<◌}
use native.Mathlib.Omega.{arith}
use borrow.Author.Tests.{eq-eqb, ne_eqb}
use lib.Dec.{eqb}
use lib.ListN.{length, get_or, set}
use Rattle.claims.specs.Pieces.{differing}

pub differing_none : (l : List ℕ) → differing l l ≡ 0
differing_none [] = refl
differing_none (x ∷ xs) = rw (eq-eqb x x refl) (differing_none xs)

one_more_lem : (a : Bool) (n : ℕ) → cond a (suc n) (suc (suc n)) ≡ suc (cond a n (suc n))
one_more_lem true n = refl
one_more_lem false n = refl

-- a word set to another than it was, where nothing differed, is one more that differs
pub differing_set : (l m : List ℕ) (i y : ℕ) → length m ≡ length l → i < length m → get_or m i 0 ≡ get_or l i 0 → get_or l i 0 ≢ y
    → differing l (set m i y) ≡ suc (differing l m)
differing_set [] m i y hl h e n = absurd (omega arith)
differing_set (x ∷ xs) [] i y hl h e n = absurd (omega arith)
differing_set (x ∷ xs) (z ∷ zs) zero y hl h e n = rw (ne_eqb x y n, eq-eqb x z (sym e))
differing_set (x ∷ xs) (z ∷ zs) (suc i) y hl h e n =
    rw (differing_set xs zs i y (omega arith) (omega arith) e n) (one_more_lem (eqb x z) (differing xs zs))
