-- What is decided on the record of the slot, which is no change of it.
use Rattle.host_registers.specs.Registers.{read_command, register_read_of}
use Rattle.record_words.proofs.LentLaws.{lent_kept}
use mathlib.Core.Path.{refl}
use Rattle.embed.proofs.registers.clundip_register_read_abi2.Goals as goal

pub returns : goal.returns
unfolding register_read_of
returns c = λ frames map. lent_kept (read_command c.args.slot c.args.register) _ _ _ refl c.guest_in-guest.ensures (c.decide_register_read.ensures frames map) c.put_answer.ensures refl
