-- A call tests before it writes, and what it answers once it has written is no refusal. Both are in what a call is: one law for all.
use mathlib.Core.Path.{◌≡◌, refl}
use mathlib.Core.Bool.{true}
use Prim.Native.Nat.{ℕ}
use Rattle.words.proofs.Booleans.{never}
use Rattle.answers.specs.Answer.{numbers_of}
use Rattle.commands.specs.State.{State, Answered, answered}
use Rattle.commands.specs.Command.{Success, host_success, guest_success, success_answer}
use Rattle.answers.specs.declared.answer.Answer.{Answer}
use Rattle.commands.proofs.CommandLaws.{performed_either}
use Rattle.calls.specs.Step.{command_of, step}
use Rattle.calls.specs.declared.call.Call.{Call}
use Rattle.claims.specs.Refusals.{is_refusal}

-- where the answer is a refusal, the state is s
unfoldable pub KeptRefused : State → Answered → Type 0
KeptRefused s r = is_refusal (numbers_of r.answer) ≡ true → r.left ≡ s

-- a call that leaves the state keeps it, however it answers
same_kept : (s : State) (a : Answer) → KeptRefused s (answered s a)
unfolding KeptRefused
same_kept s a h = refl

-- a call that has done something is no refusal
success_kept : (s t : State) (y : Success) → KeptRefused s (answered t (success_answer y))
unfolding KeptRefused numbers_of
success_kept s t (host_success n) h = never cc
success_kept s t (guest_success n) h = never cc

pub step_kept : (c : Call) (s : State) → KeptRefused s (step c s)
unfolding step
step_kept c s = performed_either (KeptRefused s) (command_of c) s (same_kept s) (success_kept s)
