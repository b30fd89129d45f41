-- What is decided on the record of the slot, which is no change of it.
use Rattle.guest_aborts.specs.Calls.{abort_command, abort_of}
use Rattle.record_words.proofs.LentLaws.{lent_kept}
use mathlib.Core.Path.{refl}
use Rattle.embed.proofs.hypercalls.clundip_abort_abi2.Goals as goal

pub returns : goal.returns
unfolding abort_of
returns c = lent_kept (abort_command c.args.slot c.args.ipa) _ _ _ refl c.guest_in-guest.ensures c.decide_abort.ensures c.put_answer.ensures refl
