-- The part that is lent is the row.
use Rattle.host_removal.proofs.RemovalLaws.{row_vacated}
use Rattle.host_removal.proofs.removal.vacate_slot.Goals as goal

pub returns : goal.returns
returns c =
    row_vacated c.args.map.now _ _ c.row_bounds-bounds.ensures _ _ _ _ c.vacate.ensures
