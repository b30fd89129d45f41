-- The answer is that of show, and the two words are where its part begins and how long it is.
use mathlib.Core.List.{[]}
use mathlib.Core.Path.{◌∙◌}
use Rattle.record_words.specs.Words.{monitor_in}
use Rattle.embed.proofs.PartLaws.{show_told, part_empty, part_there}
use Rattle.embed.proofs.slots.clundip_show_abi2.Goals as goal

pub returns-then-words-eq0-clause-answered : goal.returns-then-words-eq0-clause-answered
returns-then-words-eq0-clause-answered c =
    c.put_answer.ensures ∙ rw (show_told c.args.slot (monitor_in c.args.records.now) c.args.map.now _ c.guest_in-guest.ensures _ (c.decide_show.ensures []))

pub returns-then-words-eq0-clause-part_told : goal.returns-then-words-eq0-clause-part_told
returns-then-words-eq0-clause-part_told c =
    part_empty c.args.slot (monitor_in c.args.records.now) c.args.map.now _ c.guest_in-guest.ensures _ c.show_row-words.ensures.0 c.if-words-eq0.true

pub returns-else-words-eq0-clause-answered : goal.returns-else-words-eq0-clause-answered
returns-else-words-eq0-clause-answered c =
    c.put_answer.ensures ∙ rw (show_told c.args.slot (monitor_in c.args.records.now) c.args.map.now _ c.guest_in-guest.ensures _ (c.decide_show.ensures []))

pub returns-else-words-eq0-clause-part_told : goal.returns-else-words-eq0-clause-part_told
returns-else-words-eq0-clause-part_told c =
    part_there c.args.slot (monitor_in c.args.records.now) c.args.map.now _ c.guest_in-guest.ensures _ c.show_row-words.ensures.0 c.if-words-eq0.false _
    c.row_bounds-bounds.ensures
