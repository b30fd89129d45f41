-- What is decided on the record of the slot, with its change put in.
use Rattle.functions.specs.Rules.{registers}
use Rattle.guest_hypercalls.specs.Calls.{hypercall_command, hypercall_of}
use Rattle.record_words.proofs.LentLaws.{lent_put}
use mathlib.Core.Path.{refl}
use Rattle.embed.proofs.hypercalls.clundip_hypercall_abi2.Goals as goal

pub returns : goal.returns
unfolding hypercall_of
returns c =
    lent_put (hypercall_command c.args.slot (registers c.args.r0 c.args.r1 c.args.r2 c.args.r3)) _ _ _ refl c.guest_in.ensures c.decide_hypercall-decision.ensures c.put_decision.ensures.answered c.put_decision.ensures.changed
