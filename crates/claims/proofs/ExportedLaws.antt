-- An exported call is the step of its call, and one that leaves the state leaves every word that is lent.
use mathlib.Core.Path.{◌≡◌, refl, ap, fun_ext}
use mathlib.Core.Bool.{true}
use mathlib.Core.List.{List}
use Prim.Native.Nat.{ℕ}
use Rattle.answers.specs.Answer.{numbers_of}
use Rattle.commands.specs.State.{State, state}
use Rattle.guest_hypercalls.specs.Calls.{hypercall_of}
use Rattle.guest_aborts.specs.Calls.{abort_of}
use Rattle.host_registers.specs.Registers.{register_read_of, register_write_of}
use Rattle.host_donation.specs.Calls.{donate_of}
use Rattle.host_frames.specs.Calls.{cleared_of, host_access_of}
use Rattle.host_guests.specs.Calls.{create_of, run_of}
use Rattle.host_guests.proofs.GuestLaws.{show_performed}
use Rattle.host_removal.specs.Calls.{remove_of}
use Rattle.calls.specs.Step.{step}
use Rattle.calls.specs.declared.call.Call.{Call}
use Rattle.calls.specs.declared.call.Call.TheVariants.{Create, Donate, Run, Remove, Cleared, Access, Show, RegisterRead, RegisterWrite, Hypercall, Abort}
use Rattle.record_words.specs.Words.{monitor_in, answer_words}
use Rattle.record_words.proofs.WordLaws.{records_kept}
use Rattle.record_words.specs.Lent.{lent, lent_after}
use Rattle.claims.specs.Refusals.{is_refusal}
use Rattle.claims.specs.Exported.{exported_as}
use Rattle.claims.proofs.RefusalLaws.{KeptRefused, step_kept}

same_step : (c : Call) (s : State) → step c s ≡ exported_as c s
unfolding step create_of donate_of run_of remove_of cleared_of host_access_of register_read_of register_write_of hypercall_of abort_of
same_step (Create k) s = refl
same_step (Donate v f g) s = refl
same_step (Run v) s = refl
same_step (Remove v) s = refl
same_step (Cleared f) s = refl
same_step (Access f) s = refl
same_step (Show v) s = show_performed v s
same_step (RegisterRead v n) s = refl
same_step (RegisterWrite v n y) s = refl
same_step (Hypercall v r) s = refl
same_step (Abort v a) s = refl

pub lent_same : (c : Call) → lent_after (step c) ≡ lent_after (exported_as c)
lent_same c = ap lent_after (fun_ext (same_step c))

pub lent_refused : (c : Call) (w f m : List ℕ)
    → let a = numbers_of (step c (state f m (monitor_in w))).answer in
    is_refusal a ≡ true → lent_after (step c) w f m ≡ lent w f m (answer_words a)
unfolding lent_after KeptRefused
lent_refused c w f m h = rw (step_kept c (state f m (monitor_in w)) h, records_kept w)
