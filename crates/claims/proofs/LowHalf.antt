-- A hypercall looks at R0 for the function number alone.
use mathlib.Core.Path.{◌≡◌, refl, ap, fun_ext}
use mathlib.Core.List.{◌++◌}
use Prim.Native.Nat.{ℕ, ◌%◌, ◌^◌}
use native.Mathlib.Omega.{arith}
use Rattle.commands.specs.State.{State, Answered}
use Rattle.commands.specs.Tests.{Tests}
use Rattle.commands.specs.Command.{View, both_tables, given_slot, Effect, command, performed}
use Rattle.answers.specs.declared.answer.Answer.{Answer}
use Rattle.functions.specs.Rules.{registers}
use Rattle.functions.specs.declared.rules.Error.{Error}
use Rattle.functions.specs.declared.rules.Registers.{Registers}
use Rattle.call_table.specs.declared.rows.Action.{Action}
use Rattle.call_table.specs.declared.rows.Action.TheVariants as action
use Rattle.guest_callers.specs.Callers.{never_run_tests}
use Rattle.guest_hypercalls.specs.Calls.{row_tests, act_of, row_for, hypercall_of}

same_act : (r : Registers) (a : ℕ) (e : Error) (o : Action) (x : View) → act_of r e o x ≡ act_of (registers a r.r1 r.r2 r.r3) e o x
unfolding act_of
same_act r a e action.Refuse x = refl
same_act r a e (action.Tell r0 r1 r2 r3) x = refl
same_act r a e action.Enroll x = refl
same_act r a e (action.Change o n) x = refl

pub low_half : (v : ℕ) (r : Registers) (s : State) → hypercall_of v r s ≡ hypercall_of v (registers (r.r0 % 2 ^ 32) r.r1 r.r2 r.r3) s
unfolding hypercall_of
low_half v r s =
    let a = r.r0 % 2 ^ 32 in
    let low : a % 2 ^ 32 ≡ a = omega arith in
    let tests : View → Tests Answer = λ x. never_run_tests x.guest ++ row_tests (row_for r x.guest) r x.guest in
    let doing : (View → Effect) → Answered = λ act. performed (command both_tables (given_slot v) tests act) s in
    rw low (ap doing (fun_ext (λ x. same_act r a (row_for r x.guest).error (row_for r x.guest).action x)))
