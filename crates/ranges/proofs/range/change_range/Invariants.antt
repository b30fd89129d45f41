-- The granules so far are done.
use Rattle.std.proofs.Common.{◌-◌, ◌≤◌, max}
use Rattle.ranges.proofs.RangeLaws.{Going}
use Rattle.ranges.proofs.range.change_range.Given as goal

abbrev pub invariant-loop-number : goal.invariant-loop-number
invariant-loop-number l = Going l.operation l.slot l.initial.row l.initial.frames l.start l.row l.frames (l.number - l.start) × (l.number ≤ max l.start l.end)
