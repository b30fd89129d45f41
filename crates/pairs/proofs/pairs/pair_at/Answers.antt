-- An index into the slot's row is a granule; past its end there is none.
use mathlib.Core.Path.{◌∙◌}
use Rattle.pairs.proofs.PairLaws.{granule_in_row, granule_off_row}
use Rattle.pairs.proofs.pairs.pair_at.Goals as goal

pub returns-then-number-words : goal.returns-then-number-words
returns-then-number-words c = c.granule_state.ensures ∙ granule_in_row _ _ _ _ _ c.row-words.ensures.words c.if-number-words.true

pub returns-else-number-words : goal.returns-else-number-words
returns-else-number-words c = granule_off_row _ _ _ _ _ c.row-words.ensures.words c.if-number-words.false
