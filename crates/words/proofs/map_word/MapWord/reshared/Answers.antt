-- The word itself, or the one with both bits of the kind changed.
use mathlib.Core.Bool.{true, false}
use Rattle.words.proofs.MapWordLaws.{map_reshared}
use Rattle.words.proofs.map_word.MapWord.reshared.Goals as goal

pub returns-then-from-to : goal.returns-then-from-to
returns-then-from-to c = let a = c.args in λ f e. map_reshared a.from a.to a.word f e true c.if-from-to.true

pub returns-else-from-to : goal.returns-else-from-to
returns-else-from-to c = let a = c.args in λ f e. map_reshared a.from a.to a.word f e false c.if-from-to.false
