-- What is decided on the record of the slot, with its change put in.
use Rattle.host_registers.specs.Registers.{write_command, register_write_of}
use Rattle.record_words.proofs.LentLaws.{lent_put}
use mathlib.Core.Path.{refl}
use Rattle.embed.proofs.registers.clundip_register_write_abi2.Goals as goal

pub returns : goal.returns
unfolding register_write_of
returns c =
    λ frames map. lent_put (write_command c.args.slot c.args.register c.args.value) _ _ _ refl c.guest_in.ensures (c.decide_register_write-decision.ensures frames map) c.put_decision.ensures.answered c.put_decision.ensures.changed
