-- The word itself, or the one with the sharing byte's lowest bit changed.
use mathlib.Core.Bool.{true, false}
use Rattle.words.proofs.FrameWordLaws.{frame_reshared}
use Rattle.words.proofs.frame_word.FrameWord.reshared.Goals as goal

pub returns-then-from-to : goal.returns-then-from-to
returns-then-from-to c = let a = c.args in λ v g e. frame_reshared a.from a.to a.word v g e true c.if-from-to.true

pub returns-else-from-to : goal.returns-else-from-to
returns-else-from-to c = let a = c.args in λ v g e. frame_reshared a.from a.to a.word v g e false c.if-from-to.false
