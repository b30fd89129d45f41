-- The words so far are vacant and their frames wait; each turn adds one word.
use Rattle.rows.proofs.RowPasses.{Vacated}
use Rattle.rows.proofs.writes.vacate.Given as goal

abbrev pub invariant-loop-word : goal.invariant-loop-word
invariant-loop-word l = Vacated l.initial.row l.initial.frames l.row l.frames l.named l.word-index
