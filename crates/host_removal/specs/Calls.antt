-- Document 01, "Host calls": remove; with "Verdicts, in the order they are tested".
use Rattle.std.specs.Prelude.{List, [], ◌∷◌, ℕ, length}
use Rattle.tables.specs.Row.{row_of, with_row}
use Rattle.commands.specs.State.{State, Answered}
use Rattle.commands.specs.Tests.{Tests}
use Rattle.commands.specs.Command.{View, both_tables, given_slot, host_success, Effect, write_tables, Command, command, performed}
use Rattle.records.specs.declared.change.Change.TheVariants.{Removed}
use Rattle.answers.specs.declared.answer.Answer.{Answer}
use Rattle.answers.specs.declared.answer.Answer.TheVariants.{Damaged}
use Rattle.rows.specs.WholeRow.{row_undamaged, vacant_row, frames_freed, frames_named}

-- remove slot v, after lengths (1) and slot (2): "the row and its frames" (6)
abbrev pub remove_tests : List ℕ → List ℕ → ℕ → Tests Answer
remove_tests frames map v = (row_undamaged frames v (row_of map v), Damaged) ∷ []

-- "the row becomes vacant, each frame in it waits to be cleared, the record becomes zero. v0 is the number of frames."
abbrev pub removed : View → Effect
removed x =
    let row = row_of x.map x.slot in
    write_tables (frames_freed row x.frames) (with_row x.map x.slot (vacant_row (length row))) Removed (host_success (frames_named row))

abbrev pub remove_command : ℕ → Command
remove_command v = command both_tables (given_slot v) (λ x. remove_tests x.frames x.map x.slot) removed

unfoldable pub remove_of : ℕ → State → Answered
remove_of v s = performed (remove_command v) s
