-- The granules so far are done; each turn does the next or ends the range, and so do the limit and the row's end.
use mathlib.Core.Path.{◌≡◌}
use Prim.Native.Nat.{◌+◌, ◌-◌, min}
use native.Mathlib.Omega.{arith}
use Rattle.ranges.specs.Range.{range_limit}
use Rattle.ranges.proofs.RangeLaws.{more, refused_there, row_ended}
use Rattle.ranges.proofs.range.change_range.Goals as goal

pub returns-in-Err : goal.returns-in-Err
returns-in-Err c =
    let most : c.min-limit.result ≡ min range_limit c.args.count = c.min-limit.ensures in
    let here : c.args.first.0 + (c.loop-number.number - c.args.first.0) ≡ c.loop-number.number = omega arith in
    rw (← most) (refused_there c.loop-number.invariant.0 _ _ (omega arith) (rw here c.in-Err.ensures))

pub loop-number-preserved : goal.loop-number-preserved
loop-number-preserved c =
    let here : c.args.first.0 + (c.loop-number.number - c.args.first.0) ≡ c.loop-number.number = omega arith in
    let next : c.loop-number.number + 1 - c.args.first.0 ≡ c.loop-number.number - c.args.first.0 + 1 = omega arith in
    (rw next (more c.loop-number.invariant.0 (rw here c.in_default.ensures) c.change_granule.auto.row), omega arith)

pub returns-then-done-limit : goal.returns-then-done-limit
returns-then-done-limit c =
    let most : c.min-limit.result ≡ min range_limit c.args.count = c.min-limit.ensures in
    let same : c.saturating_sub-done.result ≡ c.loop-number.number - c.args.first.0 = omega arith in
    rw (← most, same) (row_ended c.loop-number.invariant.0 _ (omega arith) (omega arith))
