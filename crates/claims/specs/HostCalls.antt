-- Document 01, "Host calls": what it says with "exactly" of create, of the part that show hands back, and of the number that remove tells.
use Rattle.std.specs.Prelude.{◌≡◌, Bool, true, List, [], ℕ, ◌<◌, ◌≤◌, length}
use Rattle.tables.specs.Length.{lengths_hold}
use Rattle.tables.specs.Row.{row_of}
use Rattle.records.specs.Monitor.{guest_of}
use Rattle.answers.specs.Answer.{numbers_of}
use Rattle.commands.specs.State.{State, Answered}
use Rattle.records.specs.declared.monitor.Monitor.{Monitor}
use Rattle.host_guests.specs.Calls.{create_of, show_of}
use Rattle.claims.specs.Pieces.{differing}

abbrev pub AllLive : Monitor → Type 0
AllLive m = (v : ℕ) → v < 8 → (guest_of m v).live ≡ true

-- "Refused with 7 exactly when the lengths hold and all eight are live."; of either kind of create
pub record SevenExactly (legacy : Bool) (s : State) : Type 0 where
  pub only : (numbers_of (create_of legacy s).answer).verdict ≡ 7 → (lengths_hold (length s.frames) (length s.map) ≡ true) × AllLive s.monitor
  pub always : lengths_hold (length s.frames) (length s.map) ≡ true → AllLive s.monitor → (numbers_of (create_of legacy s).answer).verdict ≡ 7

-- the row of slot v, which is not empty, where the call is done; "a refusal hands back an empty part"
pub record RowOrEmpty (v : ℕ) (m : Monitor) (map : List ℕ) : Type 0 where
  pub row : (numbers_of (show_of v m map).answer).verdict ≡ 0 → ((show_of v m map).part ≡ row_of map v) × (1 ≤ length (show_of v m map).part)
  pub empty : ((numbers_of (show_of v m map).answer).verdict ≡ 0 → ⊥) → (show_of v m map).part ≡ []

-- of remove: "v0 is the number of frames", those whose words it changed
abbrev pub CountsFrames : State → Answered → Type 0
CountsFrames s r = (numbers_of r.answer).verdict ≡ 0 → (numbers_of r.answer).v0 ≡ differing s.frames r.left.frames
