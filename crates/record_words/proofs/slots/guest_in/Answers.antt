-- By whether there is such a slot: its record is that of the part that its words are.
use mathlib.Core.Path.{sym, ap, ◌∙◌}
use native.Mathlib.Omega.{arith}
use lib.Seq.{take-take}
use Rattle.records.specs.Monitor.{guest_length, guest_in}
use Rattle.record_words.specs.Words.{words_from, guest_at}
use Rattle.record_words.proofs.WordLaws.{guest_there, guest_nowhere}
use Rattle.record_words.proofs.slots.guest_in.Goals as goal

pub returns-then-slot-lt8 : goal.returns-then-slot-lt8
unfolding guest_at
returns-then-slot-lt8 c =
    let entry = c.args in
    let own = rw c.unwrap-own.ensures at c.first_chunk.ensures.cases in
    c.from.ensures
    ∙ ap guest_in (own.same ∙ take-take guest_length _ (words_from entry.words.now entry.slot) (omega arith))
    ∙ sym (guest_there entry.words.now entry.slot c.if-slot-lt8.true)

pub returns-else-slot-lt8 : goal.returns-else-slot-lt8
returns-else-slot-lt8 c = c.zero.ensures ∙ sym (guest_nowhere c.args.words.now c.args.slot c.if-slot-lt8.false)
