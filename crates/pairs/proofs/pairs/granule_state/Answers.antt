-- Each case by the tests that led to it.
use Rattle.pairs.proofs.PairLaws.{frame_beyond, frame_tested}
use Rattle.pairs.specs.Pair.{granule_state}
use Rattle.pairs.proofs.pairs.granule_state.Goals as goal
use Rattle.pairs.proofs.pairs.granule_state.Goals.{else-frame-frames-via-then-frame-frames+else-names, else-frame-frames-via-else-frame-frames}

pub returns-then-names : goal.returns-then-names
returns-then-names c =
    rw (← c.from.ensures, c.in-Frame.is)
    (frame_tested _ _ _ _ _ c.if-frame-frames.true _ _ c.names.ensures c.if-names.true)

pub returns-in-Vacant : goal.returns-in-Vacant
unfolding granule_state
returns-in-Vacant c = rw (← c.from.ensures, c.in-Vacant.is)

pub returns-in-Guarded : goal.returns-in-Guarded
unfolding granule_state
returns-in-Guarded c = rw (← c.from.ensures, c.in-Guarded.is)

pub returns-in-Damaged : goal.returns-in-Damaged
unfolding granule_state
returns-in-Damaged c = rw (← c.from.ensures, c.in-Damaged.is)

pub returns-else-frame-frames : goal.returns-else-frame-frames
returns-else-frame-frames c =
    rw (← c.from.ensures, c.in-Frame.is)
    (elim c.else-frame-frames.branch [
      | else-frame-frames-via-then-frame-frames+else-names w ↦ frame_tested _ _ _ _ _ w.if-frame-frames.true _ _ w.names.ensures w.if-names.false
      | else-frame-frames-via-else-frame-frames w ↦ frame_beyond _ _ _ _ _ w.if-frame-frames.false
    ])
