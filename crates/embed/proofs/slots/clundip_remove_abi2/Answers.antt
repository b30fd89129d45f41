-- What is decided on the record of the slot, with its change put in.
use Rattle.host_removal.specs.Calls.{remove_command, remove_of}
use Rattle.record_words.proofs.LentLaws.{lent_put}
use mathlib.Core.Path.{refl}
use Rattle.embed.proofs.slots.clundip_remove_abi2.Goals as goal

pub returns : goal.returns
unfolding remove_of
returns c = lent_put (remove_command c.args.slot) _ _ _ refl c.guest_in.ensures c.decide_remove-decision.ensures c.put_decision.ensures.answered c.put_decision.ensures.changed
