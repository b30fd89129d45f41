-- By whether the change alters a record.
use mathlib.Core.Path.{sym, ◌∙◌}
use Rattle.record_words.proofs.WordLaws.{change_none}
use Rattle.record_words.proofs.replies.put_decision.Goals as goal
use Rattle.record_words.proofs.replies.put_decision.Goals.{then-alters, else-alters}

pub returns-clause-changed : goal.returns-clause-changed
returns-clause-changed c =
    elim c.if-alters.branch [
      | then-alters w ↦ w.words-is ∙ w.put_change.ensures
      | else-alters w ↦ w.words-is ∙ change_none c.args.words.now c.args.slot c.args.decision.change (sym w.if-alters.false ∙ c.alters.ensures)
    ]
