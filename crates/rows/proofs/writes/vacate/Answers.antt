-- The words so far are vacant and their frames wait; each turn adds one word.
use Rattle.rows.proofs.RowPasses.{more, all}
use Rattle.rows.proofs.writes.vacate.Goals as goal

pub loop-word-preserved : goal.loop-word-preserved
loop-word-preserved c =
    let free = c.free_frame-named in
    more _ _ _ _ _ _ c.loop-word.invariant c.loop-word-test.true _ _
    free.ensures free.auto.frames

pub returns : goal.returns
returns c = all _ _ _ _ _ _ c.loop-word.invariant c.loop-word-test.false
