-- What lengths that hold say: the bounds of F and W.
use mathlib.Core.Path.{◌≡◌}
use mathlib.Core.Bool.{true, ◌&&◌}
use Prim.Native.Nat.{ℕ, ◌%◌, ◌≤◌}
use borrow.Author.Tests.{leb-true}
use lib.Dec.{eqb, leb}
use Rattle.words.proofs.Booleans.{both_true}
use Rattle.tables.specs.Length.{frames_hold, width_of, map_holds}

pub frames_at_most : (f : ℕ) → frames_hold f ≡ true → f ≤ 16384
unfolding frames_hold
frames_at_most f h = leb-true f 16384 (both_true (leb 1 f) (leb f 16384) h).1

pub width_between : (m : ℕ) → map_holds m ≡ true → (1 ≤ width_of m) × (width_of m ≤ 4096)
unfolding map_holds
width_between m h =
    let width = (both_true (eqb (m % 8) 0) (leb 1 (width_of m) && leb (width_of m) 4096) h).1 in
    let bounds = both_true (leb 1 (width_of m)) (leb (width_of m) 4096) width in
    (leb-true 1 (width_of m) bounds.0, leb-true (width_of m) 4096 bounds.1)
