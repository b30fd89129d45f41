-- What is decided on the record of the slot, which is no change of it.
use Rattle.host_donation.specs.Calls.{donate_command, donate_of}
use Rattle.record_words.proofs.LentLaws.{lent_kept}
use mathlib.Core.Path.{refl}
use Rattle.embed.proofs.frames.clundip_donate_abi2.Goals as goal

pub returns : goal.returns
unfolding donate_of
returns c = lent_kept (donate_command c.args.slot c.args.frame c.args.granule) _ _ _ refl c.guest_in.ensures c.decide_donate-decision.ensures c.put_answer.ensures refl
