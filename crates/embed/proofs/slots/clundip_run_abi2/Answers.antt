-- What is decided on the record of the slot, with its change put in.
use Rattle.host_guests.specs.Calls.{run_command, run_of}
use Rattle.record_words.proofs.LentLaws.{lent_put}
use mathlib.Core.Path.{refl}
use Rattle.embed.proofs.slots.clundip_run_abi2.Goals as goal

pub returns : goal.returns
unfolding run_of
returns c = λ frames map. lent_put (run_command c.args.slot) _ _ _ refl c.guest_in.ensures (c.decide_run-decision.ensures frames map) c.put_decision.ensures.answered c.put_decision.ensures.changed
