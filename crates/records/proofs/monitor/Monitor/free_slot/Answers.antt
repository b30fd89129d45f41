-- The place that `position` finds is that of the first record that is not live.
use mathlib.Core.Path.{ap, ◌∙◌}
use mathlib.Core.Bool.{not}
use borrow.Author.Rules.{rules}
use borrow.Author.Tests.{tests}
use Rattle.std.specs.Option.{unwrap_or}
use Rattle.std.proofs.lemmas.Iterator.{YieldsList-from_slice}
use Rattle.std.proofs.lemmas.Iterator.Search.{position_from_yields_List}
use Rattle.records.proofs.SlotLaws.{lowest_free}
use Rattle.records.proofs.monitor.Monitor.free_slot.Goals as goal

pub returns : goal.returns
returns c =
    let found = position_from_yields_List (λ g. not g.live) _ _ _ c.position.ensures.ran (YieldsList-from_slice c.args.self.guests cc) (λ x b q k. search (rules, tests)) in
    c.unwrap_or.ensures ∙ ap (λ r. unwrap_or r 8) found ∙ lowest_free c.args.self (search rules)
