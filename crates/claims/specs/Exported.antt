-- The calls as programs in C and Rust make them, each by the definition that the contract of its function in crates/embed/src names.
use Rattle.commands.specs.State.{State, Answered, answered}
use Rattle.guest_hypercalls.specs.Calls.{hypercall_of}
use Rattle.guest_aborts.specs.Calls.{abort_of}
use Rattle.host_registers.specs.Registers.{register_read_of, register_write_of}
use Rattle.host_donation.specs.Calls.{donate_of}
use Rattle.host_frames.specs.Calls.{cleared_of, host_access_of}
use Rattle.host_guests.specs.Calls.{create_of, run_of, show_of}
use Rattle.host_removal.specs.Calls.{remove_of}
use Rattle.calls.specs.declared.call.Call.{Call}
use Rattle.calls.specs.declared.call.Call.TheVariants.{Create, Donate, Run, Remove, Cleared, Access, Show, RegisterRead, RegisterWrite, Hypercall, Abort}

-- such a function leaves `lent_after` of this; that of show, which is lent records and map to read alone, states the answer of it
abbrev pub exported_as : Call → State → Answered
exported_as (Create k) = create_of k
exported_as (Donate v f g) = donate_of v f g
exported_as (Run v) = run_of v
exported_as (Remove v) = remove_of v
exported_as (Cleared f) = cleared_of f
exported_as (Access f) = host_access_of f
exported_as (Show v) = λ s. answered s (show_of v s.monitor s.map).answer
exported_as (RegisterRead v n) = register_read_of v n
exported_as (RegisterWrite v n y) = register_write_of v n y
exported_as (Hypercall v r) = hypercall_of v r
exported_as (Abort v a) = abort_of v a
