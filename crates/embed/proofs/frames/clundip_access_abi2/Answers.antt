-- What is decided with any record, which is no change of one.
use Rattle.host_frames.specs.Calls.{access_command, host_access_of}
use Rattle.record_words.proofs.LentLaws.{lent_kept}
use mathlib.Core.Path.{refl}
use Rattle.records.specs.Monitor.{guest_of}
use Rattle.record_words.specs.Words.{monitor_in}
use Rattle.embed.proofs.frames.clundip_access_abi2.Goals as goal

pub returns : goal.returns
unfolding host_access_of
returns c = λ records. lent_kept (access_command c.args.frame) _ _ _ refl refl (c.decide_access.ensures 8 (guest_of (monitor_in records) 8)) c.put_answer.ensures refl
