-- The row that is lent and made vacant.
use mathlib.Core.Path.{◌≡◌, ap, ◌∙◌}
use mathlib.Core.List.{List, ◌++◌}
use Prim.Native.Nat.{ℕ, ◌-◌}
use borrow.Rule.Slice.PartMut.{mid_of, put_mid, Post-is}
use lib.ListN.{length, take}
use Rattle.tables.specs.Row.{bounds_of, row_of, with_row}
use Rattle.std.specs.declared.ops.Range.{Range}
use Rattle.tables.proofs.RowLaws.{in_order}
use Rattle.rows.specs.WholeRow.{vacant_row, frames_freed, frames_named}

-- the row of slot v, lent as the part between its bounds and made vacant
pub row_vacated : (map : List ℕ) (v : ℕ) (r : Range ℕ) → r ≡ bounds_of (length map) v → (frames row frames' : List ℕ) (count : ℕ)
    → (row ≡ vacant_row (length (mid_of r.start (r.end - r.start) map))) × (frames' ≡ frames_freed (mid_of r.start (r.end - r.start) map) frames)
    × (count ≡ frames_named (mid_of r.start (r.end - r.start) map))
    → (put_mid r.start (r.end - r.start) map row ≡ with_row map v (vacant_row (length (row_of map v)))) × (frames' ≡ frames_freed (row_of map v) frames)
    × (count ≡ frames_named (row_of map v))
row_vacated map v r e frames row frames' count d =
    let put : put_mid r.start (r.end - r.start) map row ≡ with_row map v row =
    ap {B = List ℕ} (λ l. take r.start map ++ (row ++ l)) (Post-is r.start r.end map (in_order map v r e).0) ∙ rw e in
    (put ∙ ap (with_row map v) (rw e at d.0), rw e at d.1, rw e at d.2)
