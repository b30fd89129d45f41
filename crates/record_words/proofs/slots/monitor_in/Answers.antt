-- Slot by slot.
use Rattle.std.proofs.Common.{rules}
use mathlib.Core.Path.{ap}
use mathlib.Core.List.{List}
use Rattle.records.specs.Monitor.{zero_guest, guest_of}
use Rattle.records.specs.declared.guest.Guest.{Guest}
use Rattle.records.specs.declared.monitor.Monitor.{Monitor}
use Rattle.record_words.specs.Words.{monitor_in}
use Rattle.record_words.proofs.WordLaws.{filled}
use Rattle.record_words.proofs.slots.monitor_in.Goals as goal

pub returns : goal.returns
unfolding guest_of
returns c =
    ap {B = Monitor} (λ (l : List Guest). record { guests = l })
    (filled _ _ (guest_of (monitor_in c.args.words.now)) (λ i r q h. search rules) _ 8 zero_guest c.from_fn.ensures.items)
