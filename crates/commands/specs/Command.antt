-- A call as one value: the tables and the slot that it has, its tests in their order, and its effect where they all hold.
use Rattle.std.specs.Prelude.{List, [], ◌∷◌, ◌++◌, ℕ, pos, length}
use Rattle.std.proofs.Math.Option.{Option, none, some}
use Rattle.tables.specs.Length.{map_holds, lengths_hold}
use Rattle.answers.specs.Answer.{returned}
use Rattle.answers.specs.declared.answer.Answer.{Answer}
use Rattle.answers.specs.declared.answer.Answer.TheVariants.{Done, BadLength, NoGuest}
use Rattle.records.specs.Monitor.{zero_guest, guest_of, live_in, free_slot}
use Rattle.records.specs.Change.{with_change}
use Rattle.records.specs.declared.guest.Guest.{Guest}
use Rattle.records.specs.declared.monitor.Monitor.{Monitor}
use Rattle.records.specs.declared.change.Change.{Change}
use Rattle.records.specs.declared.change.Change.TheVariants.{Kept}
use Rattle.commands.specs.State.{State, state, Answered, answered}
use Rattle.commands.specs.Tests.{Tests, first_refusal}
use Rattle.commands.specs.declared.decision.Decision.{Decision}

-- all that a call looks at: both tables, its slot, and the record there
pub record View : Type 0 where
  pub frames : List ℕ
  pub map : List ℕ
  pub slot : ℕ
  pub guest : Guest

abbrev pub view : List ℕ → List ℕ → ℕ → Guest → View
view f m v g = record { frames = f; map = m; slot = v; guest = g }

-- "A verdict tests only what its call has. Run and the register calls take no table, show takes the map table alone, the rest both."
pub data Tables : Type 0 where
  no_table : Tables
  map_table : Tables
  both_tables : Tables

-- the slot of a call: it is given one, it takes "the lowest slot that isn't live", or it has none
pub data Slot : Type 0 where
  given_slot : ℕ → Slot
  lowest_free : Slot
  no_slot : Slot

-- its number, 8 where there is no slot
abbrev pub slot_number : Slot → Monitor → ℕ
slot_number (given_slot v) m = v
slot_number lowest_free m = free_slot m
slot_number no_slot m = 8

-- the answer of a call that has changed something; none is a refusal
pub data Success : Type 0 where
  -- "host call done" with v0
  host_success : ℕ → Success
  -- a return to the guest with R0 = 0 and R1
  guest_success : ℕ → Success

abbrev pub success_answer : Success → Answer
success_answer (host_success n) = Done n
success_answer (guest_success n) = returned (pos 0) n

-- all that a call may do: answer and change nothing; change the record of its slot; or leave these tables, and change the record too
pub data Effect : Type 0 where
  answer_only : Answer → Effect
  change_record : Change → Success → Effect
  write_tables : List ℕ → List ℕ → Change → Success → Effect

-- the tests are those after verdicts 1 and 2, which the tables and the slot give
pub record Command : Type 0 where
  pub tables : Tables
  pub slot : Slot
  pub tests : View → Tests Answer
  pub effect : View → Effect

abbrev pub command : Tables → Slot → (View → Tests Answer) → (View → Effect) → Command
command t u ts e = record { tables = t; slot = u; tests = ts; effect = e }

-- verdict 1, "a table length breaks the bounds above"
abbrev pub length_tests : Tables → List ℕ → List ℕ → Tests Answer
length_tests no_table frames map = []
length_tests map_table frames map = (map_holds (length map), BadLength) ∷ []
length_tests both_tables frames map = (lengths_hold (length frames) (length map), BadLength) ∷ []

-- verdict 2, "slot above 7 or not live"
abbrev pub live_tests : ℕ → Guest → Tests Answer
live_tests v g = (live_in v g, NoGuest) ∷ []

abbrev pub slot_tests : Slot → View → Tests Answer
slot_tests (given_slot v) x = live_tests x.slot x.guest
slot_tests lowest_free x = []
slot_tests no_slot x = []

-- a call that is given no slot looks at no record
abbrev pub seen_by : Slot → View → View
seen_by (given_slot v) x = x
seen_by lowest_free x = view x.frames x.map x.slot zero_guest
seen_by no_slot x = view x.frames x.map x.slot zero_guest

-- all tests of a call, in the order of the verdicts
abbrev pub tests_of : Command → View → Tests Answer
tests_of k x = length_tests k.tables x.frames x.map ++ (slot_tests k.slot x ++ k.tests (seen_by k.slot x))

abbrev pub effect_of : Command → View → Effect
effect_of k x = k.effect (seen_by k.slot x)

-- a refused call answers so and does nothing else
abbrev pub unless_refused : Option Answer → Effect → Effect
unless_refused none e = e
unless_refused (some a) e = answer_only a

abbrev pub decision : Change → Answer → Decision
decision d a = record { change = d; answer = a }

-- the decision behind some tests: their refusal, which keeps the record, or this
abbrev pub decided_by : Option Answer → Change → Answer → Decision
decided_by none d a = decision d a
decided_by (some r) d a = decision Kept r

-- what a call comes to: the tables that it leaves, what it does to the record of its slot, and its answer
pub record Result : Type 0 where
  pub frames : List ℕ
  pub map : List ℕ
  pub decision : Decision

abbrev pub result_with : List ℕ → List ℕ → Decision → Result
result_with f m d = record { frames = f; map = m; decision = d }

abbrev pub result_by : View → Effect → Result
result_by x (answer_only a) = result_with x.frames x.map (decision Kept a)
result_by x (change_record d y) = result_with x.frames x.map (decision d (success_answer y))
result_by x (write_tables f m d y) = result_with f m (decision d (success_answer y))

abbrev pub result_of : Command → View → Result
result_of k x = result_by x (unless_refused (first_refusal (tests_of k x)) (effect_of k x))

-- slot v of a state as a call sees it, and the state and the answer that a result for slot v leaves
abbrev pub view_of : ℕ → State → View
view_of v s = view s.frames s.map v (guest_of s.monitor v)

abbrev pub applied : ℕ → State → Result → Answered
applied v s o = answered (state o.frames o.map (with_change s.monitor v o.decision.change)) o.decision.answer

-- an effect of a call of slot v in a state
abbrev pub effected : ℕ → State → Effect → Answered
effected v s e = applied v s (result_by (view_of v s) e)

-- a call made in a state
abbrev pub performed : Command → State → Answered
performed k s = let v = slot_number k.slot s.monitor in applied v s (result_of k (view_of v s))
