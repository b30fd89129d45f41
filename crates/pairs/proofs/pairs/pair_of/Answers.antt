-- Each case by what the frame's word said; where it names an owner, by the tests of the owner's granule.
use mathlib.Core.Path.{◌∙◌}
use Rattle.pairs.specs.Pair.{frame_state}
use Rattle.pairs.proofs.PairLaws.{frame_reached, frame_none, owner_slot, owner_beyond, owner_tested}
use Rattle.pairs.proofs.pairs.pair_of.Goals as goal
use Rattle.pairs.proofs.pairs.pair_of.Goals.{else-granule-words-via-then-granule-words+else-names, else-granule-words-via-else-granule-words}

pub returns-then-frames-number : goal.returns-then-frames-number
returns-then-frames-number c = frame_none _ _ _ c.if-frames-number.true

pub returns-in-Host : goal.returns-in-Host
unfolding frame_state
returns-in-Host c = frame_reached _ _ _ c.if-frames-number.false _ _ c.from.ensures c.in-Host.is

pub returns-in-Waiting : goal.returns-in-Waiting
unfolding frame_state
returns-in-Waiting c = frame_reached _ _ _ c.if-frames-number.false _ _ c.from.ensures c.in-Waiting.is

pub returns-in-Damaged : goal.returns-in-Damaged
unfolding frame_state
returns-in-Damaged c = frame_reached _ _ _ c.if-frames-number.false _ _ c.from.ensures c.in-Damaged.is

pub returns-then-names : goal.returns-then-names
returns-then-names c =
    owner_tested _ _ _ _ _ _ c.row-words.ensures.words c.if-granule-words.true _ _ c.names.ensures c.if-names.true
    ∙ frame_reached _ _ _ c.if-frames-number.false _ _ c.from.ensures c.in-Owned.is

pub returns-else-granule-words : goal.returns-else-granule-words
returns-else-granule-words c =
    let words = c.row-words.ensures.words in
    (elim c.else-granule-words.branch [
      | else-granule-words-via-then-granule-words+else-names w ↦ owner_tested _ _ _ _ _ _ words w.if-granule-words.true _ _ w.names.ensures w.if-names.false
      | else-granule-words-via-else-granule-words w ↦ owner_beyond _ _ _ _ _ _ words (owner_slot _ _ _ _ _ c.from.ensures c.in-Owned.is) w.if-granule-words.false
    ])
    ∙ frame_reached _ _ _ c.if-frames-number.false _ _ c.from.ensures c.in-Owned.is
