-- The test on each granule is the definition's.
use mathlib.Core.Path.{◌∙◌}
use borrow.Author.Rules.{rules}
use borrow.Author.Tests.{tests}
use Rattle.std.proofs.lemmas.Iterator.{YieldsList-from_slice}
use Rattle.std.proofs.lemmas.Iterator.Consumers.{YieldsList-from_enumerate}
use Rattle.std.proofs.lemmas.Iterator.Search.{all_from_yields_List}
use Rattle.words.specs.MapWord.{map_word_of}
use Rattle.pairs.specs.Pair.{granule_state, granule_undamaged}
use Rattle.rows.proofs.RowPasses.{undamaged_each}
use Rattle.rows.proofs.looks.row_undamaged.Goals as goal

pub returns : goal.returns
returns c =
    let a = c.args in
    all_from_yields_List (λ p. granule_undamaged (granule_state a.frames.now a.slot p.0 (map_word_of p.1))) _ _ _ c.all.ensures.ran
    (YieldsList-from_enumerate (YieldsList-from_slice a.row.now cc) cc) (λ x b q k. search (rules, tests))
    ∙ undamaged_each a.frames.now a.slot 0 a.row.now
