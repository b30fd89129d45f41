-- Document 01, "Host calls": create, run and show a guest's row; with "Verdicts, in the order they are tested". Document 02, Wish 1: "Create gets a
-- second kind".
use Rattle.std.specs.Prelude.{Bool, List, [], ◌∷◌, ℕ, ltb}
use Rattle.std.proofs.Math.Option.{Option, none, some}
use Rattle.tables.specs.Row.{row_of}
use Rattle.records.specs.Monitor.{guest_of}
use Rattle.commands.specs.State.{State, Answered}
use Rattle.commands.specs.Tests.{Tests, first_refusal}
use Rattle.commands.specs.Command.{view, no_table, map_table, both_tables, given_slot, lowest_free, host_success, answer_only, change_record, Command, command, tests_of, performed}
use Rattle.records.specs.declared.guest.Guest.{Guest}
use Rattle.records.specs.declared.monitor.Monitor.{Monitor}
use Rattle.records.specs.declared.change.Change.TheVariants.{Created, Run}
use Rattle.answers.specs.declared.answer.Answer.{Answer}
use Rattle.answers.specs.declared.answer.Answer.TheVariants.{Done, Damaged, NoFreeSlot}
use Rattle.rows.specs.WholeRow.{row_vacant}

-- create in slot v, after lengths (1): "any word but vacant is damage here" (6), no free slot (7). There is no slot 8 and it has no row, so 7
-- is given "exactly when the lengths hold and all eight are live".
abbrev pub create_tests : List ℕ → ℕ → Tests Answer
create_tests map v = (row_vacant (row_of map v), Damaged) ∷ (ltb v 8, NoFreeSlot) ∷ []

-- "Create: takes the lowest slot that isn't live"; "create sets every field anew"; "v0 is the slot." Both kinds alike; the record keeps which.
abbrev pub create_command : Bool → Command
create_command legacy =
    command both_tables lowest_free (λ x. create_tests x.map x.slot) (λ x. change_record (Created legacy) (host_success x.slot))

unfoldable pub create_of : Bool → State → Answered
create_of legacy s = performed (create_command legacy) s

-- "Run: marks the guest as run; again changes nothing." It has slot (2) alone.
abbrev pub run_command : ℕ → Command
run_command v = command no_table (given_slot v) (λ x. []) (λ x. change_record Run (host_success 0))

unfoldable pub run_of : ℕ → State → Answered
run_of v s = performed (run_command v) s

-- show: the map table's length (1), slot (2). The row that it hands back is no part of the state.
abbrev pub show_command : ℕ → Command
show_command v = command map_table (given_slot v) (λ x. []) (λ x. answer_only (Done 0))

-- what show answers, and the part of the map table that it hands back
pub record Shown : Type 0 where
  pub answer : Answer
  pub part : List ℕ

-- "a refusal hands back an empty part"
abbrev pub shown_unless : Option Answer → List ℕ → Shown
shown_unless none row = record { answer = Done 0; part = row }
shown_unless (some a) row = record { answer = a; part = [] }

-- "the row is handed back as that part of the map table itself"; g is the record of slot v
abbrev pub shown_by : ℕ → Guest → List ℕ → Shown
shown_by v g map = shown_unless (first_refusal (tests_of (show_command v) (view [] map v g))) (row_of map v)

unfoldable pub show_of : ℕ → Monitor → List ℕ → Shown
show_of v m map = shown_by v (guest_of m v) map
