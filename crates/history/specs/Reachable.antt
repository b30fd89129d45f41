-- The states that calls can leave: "only these calls write them".
use Rattle.std.specs.Prelude.{◌≡◌, true, List, ℕ, ◌*◌, ◌<◌, ◌^◌}
use Rattle.runs.specs.Made.{Every}
use Rattle.tables.specs.Length.{lengths_hold}
use Rattle.commands.specs.State.{State}
use Rattle.calls.specs.Step.{arguments, state_after, fresh_state}
use Rattle.calls.specs.declared.call.Call.{Call}

-- each number that a call is made with has 64 bits
abbrev pub Fits : Call → Type 0
Fits c = Every (λ x. x < 2 ^ 64) (arguments c)

-- some calls leave this state, from fresh tables of lengths that document 01 allows
pub record Reachable (s : State) : Type 0 where
  pub F : ℕ
  pub W : ℕ
  pub allowed : lengths_hold F (8 * W) ≡ true
  pub calls : List Call
  pub fit : Every Fits calls
  pub leaves : state_after calls (fresh_state F W) ≡ s
