-- Document 01, "Guest calls": a hypercall.
use Rattle.std.specs.Prelude.{Bool, cond, [], ◌∷◌, ◌++◌, ℕ, zero, suc, min, pos}
use Rattle.runs.specs.Run.{Stop, complete, refused, out_of_fuel, End, ended, run}
use Rattle.words.specs.Granule.{granule_of}
use Rattle.answers.specs.Answer.{returned}
use Rattle.commands.specs.State.{State, Answered}
use Rattle.commands.specs.Tests.{Tests}
use Rattle.commands.specs.Command.{View, both_tables, given_slot, guest_success, Effect, answer_only, change_record, write_tables, Command, command, performed}
use Rattle.records.specs.declared.guest.Guest.{Guest}
use Rattle.records.specs.declared.change.Change.TheVariants.{Kept, Enrolled}
use Rattle.answers.specs.declared.answer.Answer.{Answer}
use Rattle.answers.specs.declared.answer.Answer.TheVariants.{Damaged, Return}
use Rattle.granules.specs.Step.{Place, place, Refusal, is_damaged, not_done, table_step}
use Rattle.ranges.specs.Range.{range_limit}
use Rattle.guest_callers.specs.Callers.{never_run_tests}
use Rattle.functions.specs.Function.{asked_by}
use Rattle.functions.specs.Rules.{permits, error_answer}
use Rattle.call_table.specs.Table.{granules_of, is_told, call_row_of, registers_hold}
use Rattle.functions.specs.declared.rules.Registers.{Registers}
use Rattle.functions.specs.declared.rules.Error.{Error}
use Rattle.call_table.specs.declared.rows.CallRow.{CallRow}
use Rattle.call_table.specs.declared.rows.Action.{Action}
use Rattle.call_table.specs.declared.rows.Action.TheVariants as action

-- "Registers, then enrolment, are tested before any granule."
abbrev pub row_tests : CallRow → Registers → Guest → Tests Answer
row_tests w r g = (registers_hold w r, error_answer w.error) ∷ (permits w.condition g, error_answer w.error) ∷ []

-- "If at least one was done it answers 0, and R1 is the number of granules changed by this call. If none was done, it answers IP or NS
-- with R1 = 0, or verdict 6 if that granule is damaged."
abbrev pub done_answer : Error → Bool → ℕ → Stop Refusal → Answer
done_answer e t (suc k) r = returned (pos 0) (cond t (suc k) 0)
done_answer e t zero (refused is_damaged) = Damaged
done_answer e t zero (refused not_done) = error_answer e
done_answer e t zero complete = error_answer e
done_answer e t zero out_of_fuel = error_answer e

-- a range that did a granule leaves these tables, and one that did none those that it found
abbrev pub finished : Error → Bool → End Place Refusal → Effect
finished e t (ended zero p r) = answer_only (done_answer e t zero r)
finished e t (ended (suc k) (place map frames g) r) = write_tables frames map Kept (guest_success (cond t (suc k) 0))

-- what a hypercall with registers r does whose tests have passed
unfoldable pub act_of : Registers → Error → Action → View → Effect
act_of r e action.Refuse x = answer_only (error_answer e)
-- "UID words and bitmaps are zero-extended."
act_of r e (action.Tell r0 r1 r2 r3) x = answer_only (Return (pos r0) r1 r2 r3)
act_of r e action.Enroll x = change_record Enrolled (guest_success 0)
-- "each stops after 64 granules, at the count, or before the first granule that can't be done"
act_of r e (action.Change o n) x =
    finished e (is_told n) (run (table_step o x.slot) (min range_limit (granules_of n r.r2)) (place x.map x.frames (granule_of r.r1)))

-- the row that registers r ask for, in the table of the caller's kind
abbrev pub row_for : Registers → Guest → CallRow
row_for r g = call_row_of g.legacy (asked_by r.r0)

-- a hypercall of slot v with registers r
abbrev pub hypercall_command : ℕ → Registers → Command
hypercall_command v r =
    command both_tables (given_slot v)
    (λ x. never_run_tests x.guest ++ row_tests (row_for r x.guest) r x.guest)
    (λ x. act_of r (row_for r x.guest).error (row_for r x.guest).action x)

unfoldable pub hypercall_of : ℕ → Registers → State → Answered
hypercall_of v r s = performed (hypercall_command v r) s
