-- By whether the slot has a record, whether the change alters one, and whether that stays as it is.
use mathlib.Core.Path.{sym, ◌∙◌}
use Rattle.std.proofs.Common.{rules}
use native.Mathlib.Omega.{arith}
use Rattle.record_words.proofs.WordLaws.{change_none, change_same, change_written, change_nowhere}
use Rattle.record_words.proofs.slots.put_change.Goals as goal

pub returns-then-slot-ge8 : goal.returns-then-slot-ge8
returns-then-slot-ge8 c = change_nowhere c.args.words.now c.args.slot c.args.change c.if-slot-ge8.true

pub returns-then-not-alters : goal.returns-then-not-alters
returns-then-not-alters c =
    change_none c.args.words.now c.args.slot c.args.change (sym c.if-not-alters.true ∙ c.alters.ensures)

pub returns-then-ne : goal.returns-then-ne
returns-then-ne c =
    let entry = c.args in
    rw c.copy_from_slice.ensures.after
    (change_written entry.words.now entry.slot entry.change c.if-slot-ge8.false
    _ c.guest_in-guest.ensures _ c.apply.ensures _ _ c.from.ensures c.from-own.ensures (search rules) _ (omega arith))

pub returns-else-ne : goal.returns-else-ne
returns-else-ne c =
    let entry = c.args in
    change_same entry.words.now entry.slot entry.change c.if-slot-ge8.false
    _ c.guest_in-guest.ensures _ c.apply.ensures _ _ c.from.ensures c.from-own.ensures (search rules)
