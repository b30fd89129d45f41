-- Document 01: every call of the host and of a guest, as one function over one state.
use Rattle.std.specs.Prelude.{List, [], ◌∷◌, ℕ, ◌*◌, replicate}
use Rattle.records.specs.Monitor.{fresh}
use Rattle.commands.specs.State.{State, state, Answered}
use Rattle.commands.specs.Command.{Command, performed}
use Rattle.functions.specs.declared.rules.Registers.{Registers}
use Rattle.guest_hypercalls.specs.Calls.{hypercall_command}
use Rattle.guest_aborts.specs.Calls.{abort_command}
use Rattle.host_registers.specs.Registers.{read_command, write_command}
use Rattle.host_donation.specs.Calls.{donate_command}
use Rattle.host_frames.specs.Calls.{cleared_command, access_command}
use Rattle.host_guests.specs.Calls.{create_command, run_command, show_command}
use Rattle.host_removal.specs.Calls.{remove_command}
use Rattle.calls.specs.declared.call.Call.{Call}
use Rattle.calls.specs.declared.call.Call.TheVariants.{Create, Donate, Run, Remove, Cleared, Access, Show, RegisterRead, RegisterWrite, Hypercall, Abort}

-- k is whether a guest is legacy, v is a slot, f a frame, g a granule, n a register's number, y the value written, r R0 to R3, a an IPA
abbrev pub command_of : Call → Command
command_of (Create k) = create_command k
command_of (Donate v f g) = donate_command v f g
command_of (Run v) = run_command v
command_of (Remove v) = remove_command v
command_of (Cleared f) = cleared_command f
command_of (Access f) = access_command f
command_of (Show v) = show_command v
command_of (RegisterRead v n) = read_command v n
command_of (RegisterWrite v n y) = write_command v n y
command_of (Hypercall v r) = hypercall_command v r
command_of (Abort v a) = abort_command v a

-- the numbers that a call is made with
abbrev pub arguments : Call → List ℕ
arguments (Create k) = []
arguments (Donate v f g) = v ∷ f ∷ g ∷ []
arguments (Run v) = v ∷ []
arguments (Remove v) = v ∷ []
arguments (Cleared f) = f ∷ []
arguments (Access f) = f ∷ []
arguments (Show v) = v ∷ []
arguments (RegisterRead v n) = v ∷ n ∷ []
arguments (RegisterWrite v n x) = v ∷ n ∷ x ∷ []
arguments (Hypercall v r) = v ∷ r.r0 ∷ r.r1 ∷ r.r2 ∷ r.r3 ∷ []
arguments (Abort v a) = v ∷ a ∷ []

-- what the history of a frame is read from: the calls that can change a frame, and any other
pub data FrameEvent : Type 0 where
  -- slot, frame and granule
  donation : ℕ → ℕ → ℕ → FrameEvent
  -- slot
  removal : ℕ → FrameEvent
  -- frame
  clearing : ℕ → FrameEvent
  -- slot and registers
  guest_call : ℕ → Registers → FrameEvent
  other_event : FrameEvent

abbrev pub frame_event : Call → FrameEvent
frame_event (Create k) = other_event
frame_event (Donate v f g) = donation v f g
frame_event (Run v) = other_event
frame_event (Remove v) = removal v
frame_event (Cleared f) = clearing f
frame_event (Access f) = other_event
frame_event (Show v) = other_event
frame_event (RegisterRead v n) = other_event
frame_event (RegisterWrite v n y) = other_event
frame_event (Hypercall v r) = guest_call v r
frame_event (Abort v a) = other_event

-- what a call answers, and the state that it leaves
unfoldable pub step : Call → State → Answered
step c s = performed (command_of c) s

-- the state after calls in turn
abbrev pub state_after : List Call → State → State
state_after [] s = s
state_after (c ∷ cs) s = state_after cs (step c s).left

-- "Fresh tables and records are all zero.": F frame words and 8 × W map words
abbrev pub fresh_state : ℕ → ℕ → State
fresh_state F W = state (replicate F 0) (replicate (8 * W) 0) fresh
