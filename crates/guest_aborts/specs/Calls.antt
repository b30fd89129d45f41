-- Document 01, "Guest calls": "Abort at any IPA, aligned or not".
use Rattle.std.specs.Prelude.{cond, List, ℕ, ltb, length}
use Rattle.words.specs.Granule.{granule_of}
use Rattle.tables.specs.Length.{width_of}
use Rattle.pairs.specs.Pair.{pair_at}
use Rattle.pairs.specs.declared.pairs.GranuleState.{GranuleState}
use Rattle.pairs.specs.declared.pairs.GranuleState.TheVariants as granule-state
use Rattle.commands.specs.State.{State, Answered}
use Rattle.commands.specs.Command.{both_tables, given_slot, answer_only, Command, command, performed}
use Rattle.records.specs.declared.guest.Guest.{Guest}
use Rattle.answers.specs.declared.answer.Answer.{Answer}
use Rattle.answers.specs.declared.answer.Answer.TheVariants.{Damaged, MmioExit, Exception, Resume}
use Rattle.guest_callers.specs.Callers.{never_run_tests}

-- "vacant or beyond the row is an exception if enrolled, else an MMIO exit"
abbrev pub unbacked : ℕ → Guest → Answer
unbacked a g = cond g.enrolled Exception (MmioExit a)

-- "Abort at any IPA, aligned or not: private or shared resumes; guarded is an MMIO exit"
abbrev pub access_answer : ℕ → Guest → GranuleState → Answer
access_answer a g granule-state.Vacant = unbacked a g
access_answer a g (granule-state.Frame s f) = Resume
access_answer a g granule-state.Guarded = MmioExit a
access_answer a g granule-state.Damaged = Damaged

-- an access of slot v at the address a, of the record g
unfoldable pub guest_access_of : List ℕ → List ℕ → ℕ → ℕ → Guest → Answer
guest_access_of frames map v a g =
    cond (ltb (granule_of a) (width_of (length map))) (access_answer a g (pair_at frames map v (granule_of a))) (unbacked a g)

abbrev pub abort_command : ℕ → ℕ → Command
abort_command v a =
    command both_tables (given_slot v) (λ x. never_run_tests x.guest) (λ x. answer_only (guest_access_of x.frames x.map x.slot a x.guest))

unfoldable pub abort_of : ℕ → ℕ → State → Answered
abort_of v a s = performed (abort_command v a) s
