-- By the frame in the map word, and by whether that frame's word names the granule back.
use mathlib.Core.Bool.{true, false}
use Rattle.pairs.proofs.ComparisonLaws.{compared_beyond, compared_named}
use Rattle.pairs.proofs.pairs.compare_frame.Goals as goal
use Rattle.pairs.proofs.pairs.compare_frame.Goals.{else-frame-nameable-via-then-frame-nameable+else-names, else-frame-nameable-via-else-frame-nameable}

pub returns-then-names : goal.returns-then-names
returns-then-names c = compared_named _ _ _ _ _ _ c.frame_in-frame.ensures (rw c.nameable.ensures at c.if-frame-nameable.true) _ true c.names.ensures c.if-names.true

pub returns-else-frame-nameable : goal.returns-else-frame-nameable
returns-else-frame-nameable c =
    let within = c.nameable.ensures in
    elim c.else-frame-nameable.branch [
      | else-frame-nameable-via-then-frame-nameable+else-names w ↦ compared_named _ _ _ _ _ _ c.frame_in-frame.ensures (rw within at w.if-frame-nameable.true) _ false w.names.ensures w.if-names.false
      | else-frame-nameable-via-else-frame-nameable w ↦ compared_beyond _ _ _ _ _ _ c.frame_in-frame.ensures (rw within at w.if-frame-nameable.false)
    ]
