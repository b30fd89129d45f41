-- What is decided of the free slot, with its record put in.
use Rattle.host_guests.specs.Calls.{create_command, create_of}
use Rattle.record_words.proofs.LentLaws.{lent_put}
use mathlib.Core.Path.{refl}
use Rattle.records.specs.Monitor.{guest_of}
use Rattle.record_words.specs.Words.{monitor_in}
use Rattle.embed.proofs.slots.create_kind.Goals as goal

pub returns : goal.returns
unfolding create_of
returns c =
    let free = rw c.monitor_in.ensures at c.free_slot-slot.ensures in
    lent_put (create_command c.args.legacy) _ _ _ free refl (c.decide_create-decision.ensures (guest_of (monitor_in c.args.records.now) c.free_slot-slot.result)) c.put_decision.ensures.answered c.put_decision.ensures.changed
