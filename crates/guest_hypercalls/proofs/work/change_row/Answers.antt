-- The row is within the table, and the range over it is one over the table.
use Rattle.ranges.specs.Range.{range_limit}
use Prim.Native.Nat.{min}
use Rattle.granules.proofs.Lent.{lent}
use Rattle.guest_hypercalls.proofs.work.change_row.Goals as goal

pub returns : goal.returns
returns c = λ h.
    rw (← c.holding.ensures)
    (lent c.args.operation _ (min range_limit c.args.count) _ c.args.frames.now c.holding.result.0 _ h c.row_bounds-bounds.ensures _ _ _ _ _ c.change_range.ensures)
