-- Document 01, "Verdicts, in the order they are tested": those that every call of a guest begins with.
use Rattle.std.specs.Prelude.{List, [], ◌∷◌, ◌++◌, ℕ}
use Rattle.commands.specs.Tests.{Tests}
use Rattle.commands.specs.Command.{both_tables, length_tests, live_tests}
use Rattle.records.specs.declared.guest.Guest.{Guest}
use Rattle.answers.specs.declared.answer.Answer.{Answer}
use Rattle.answers.specs.declared.answer.Answer.TheVariants.{NeverRun}

-- verdict 3, "hypercall or abort of a guest never run"
abbrev pub never_run_tests : Guest → Tests Answer
never_run_tests g = (g.run, NeverRun) ∷ []

-- verdicts 1 to 3, of the record of the caller in slot v
abbrev pub caller_tests : List ℕ → List ℕ → ℕ → Guest → Tests Answer
caller_tests frames map v g = length_tests both_tables frames map ++ (live_tests v g ++ never_run_tests g)
