-- By the action.
use Rattle.granules.specs.Step.{stop_by}
use Rattle.guest_hypercalls.proofs.HypercallLaws.{range_result}
use Rattle.guest_hypercalls.specs.Calls.{act_of}
use Rattle.ranges.specs.Range.{range_limit}
use Rattle.commands.specs.Command.{view}
use Prim.Native.Nat.{min}
use Rattle.call_table.specs.Table.{granules_of, is_told}
use Rattle.guest_hypercalls.proofs.hypercalls.act.Goals as goal

pub returns-in-Change : goal.returns-in-Change
unfolding act_of
returns-in-Change c = λ guest.
    let progress = c.change_row-progress.result in
    let n = c.in-Change.count in
    rw (c.in-Change.is, c.keep-in-Change.ensures, c.answer_of.ensures, c.is_told.ensures)
    (range_result c.in-Change.operation c.args.slot (min range_limit (granules_of n c.args.registers.r2)) c.args.registers.r1 (view c.args.frames.now c.args.map.now c.args.slot guest) c.args.error (is_told n) progress.done _ _ _ (stop_by progress.outcome)
    (rw c.granules-granules.ensures at (c.change_row-progress.ensures c.requires)))
