-- What the customer asks for, each with the words that ask for it. The definitions are in specs/; all else in proofs/ only helps to prove these.
-- Of the state no theorem here assumes anything, but that of a second run, that the guest was run, and those of condition 3 and R1, that no live
-- guest in the slot is legacy: lengths, tables and records may be sound or damaged. Those of histories, which begin with fresh tables, are stated
-- and proved in the crate history, proofs/History.antt, and passed on from there.
use mathlib.Core.Path.{◌≡◌, refl}
use mathlib.Core.Logic.{◌≢◌}
use mathlib.Core.Bool.{Bool, true, false}
use mathlib.Core.List.{List}
use Prim.Native.Nat.{ℕ, ◌%◌, ◌<◌, ◌^◌}
use native.Mathlib.Omega.{arith}
use Rattle.runs.specs.Run.{out_of_fuel, sum, stop_of}
use Rattle.runs.specs.Made.{calls_made, Every, Rising}
use Rattle.runs.specs.Worked.{AsExpected}
use Rattle.runs.proofs.Pieces.{pieces_run, pieces_fuelled}
use Rattle.words.specs.MapWord.{map_bits, map_word_of}
use Rattle.words.specs.FrameWord.{frame_bits, frame_word_of}
use Rattle.tables.specs.Length.{frames_hold, map_holds}
use Rattle.tables.specs.Row.{bounds_of}
use Rattle.pairs.specs.Pair.{granule_state, pair_at, frame_state, pair_of}
use Rattle.records.specs.Monitor.{guest_of, with_guest, free_from}
use Rattle.answers.specs.Answer.{numbers_of}
use Rattle.commands.specs.State.{State, state}
use Rattle.records.specs.declared.monitor.Monitor.{Monitor}
use Rattle.granules.specs.Kind.{change_of}
use Rattle.granules.specs.Step.{step_from}
use Rattle.ranges.specs.Range.{range_limit}
use Rattle.functions.specs.Function.{function_of}
use Rattle.functions.specs.Rules.{registers}
use Rattle.call_table.specs.Table.{ranged_row_of, legacy_row_of}
use Rattle.functions.specs.declared.rules.Registers.{Registers}
use Rattle.guest_hypercalls.specs.Calls.{act_of, hypercall_of}
use Rattle.guest_aborts.specs.Calls.{guest_access_of, abort_of}
use Rattle.rows.specs.WholeRow.{row_vacant, undamaged_from, frames_freed, frames_named}
use Rattle.host_registers.specs.Registers.{register_numbered, register_read_of, register_write_of}
use Rattle.host_donation.specs.Calls.{donate_of}
use Rattle.host_frames.specs.Calls.{cleared_of, host_access_of}
use Rattle.host_guests.specs.Calls.{create_of, run_of, show_of}
use Rattle.host_removal.specs.Calls.{remove_of}
use Rattle.calls.specs.Step.{step}
use Rattle.calls.specs.declared.call.Call.{Call}
use Rattle.claims.specs.SingleSteps.{RangeCall, number_of, at, single_step, single_steps}
use Rattle.record_words.specs.Words.{monitor_in, answer_words}
use Rattle.record_words.specs.Lent.{lent, lent_after}
use Rattle.claims.specs.Refusals.{is_refusal}
use Rattle.claims.specs.Exported.{exported_as}
use Rattle.claims.specs.Pieces.{call_at, carried_on, live_legacy, CountsChanges, address_in, AddressFits}
use Rattle.claims.specs.R1.{TellsChanges}
use Rattle.claims.specs.LegacyCalls.{LegacyCall, legacy_number, OneGranule}
use Rattle.claims.specs.Footprint.{Within}
use Rattle.claims.specs.HostCalls.{SevenExactly, RowOrEmpty, CountsFrames}
use Rattle.claims.specs.Cases.{cases}
use Rattle.claims.specs.HostCases.{host_cases, host_left, rows_shown}
use Rattle.claims.specs.GuestCases.{guest_cases, guest_left}
use Rattle.claims.specs.LegacyCases.{legacy_cases, legacy_left, left_out, legacy_steps}
use Rattle.claims.proofs.LowHalf.{low_half}
use Rattle.claims.proofs.CallAgrees.{NotLegacy, not_legacy_kept, call_agrees}
use Rattle.claims.proofs.Changes.{single_steps_count}
use Rattle.claims.proofs.Addresses.{calls_fit, calls_rise}
use Rattle.claims.proofs.R1Laws.{tells_changes}
use Rattle.claims.proofs.LegacyLaws.{one_granule}
use Rattle.claims.proofs.FootprintLaws.{hypercall_within}
use Rattle.claims.proofs.RefusalLaws.{KeptRefused, step_kept}
use Rattle.claims.proofs.ExportedLaws.{lent_same, lent_refused}
use Rattle.claims.proofs.CreateLaws.{seven_exactly}
use Rattle.claims.proofs.RunLaws.{run_again}
use Rattle.claims.proofs.ShowLaws.{row_or_empty}
use Rattle.claims.proofs.RemovalCounts.{removal_counts}
-- Condition 2, the exact invariant, and what follows for every history.
pub use Rattle.history.proofs.History.{calls_keep_sound, histories_are_sound, host_access_by_history, no_such_frame, no_damage_in_histories, private_or_waiting_closed, one_granule_per_frame, reachable_exactly, history_cases}

-- "The function number is the low 32 bits of R0; the upper half isn't looked at": for every call and every number
pub r0_by_its_low_half : (v : ℕ) (r : Registers) (s : State) → hypercall_of v r s ≡ hypercall_of v (registers (r.r0 % 2 ^ 32) r.r1 r.r2 r.r3) s
r0_by_its_low_half v r s = low_half v r s

-- Range calls of slot v. "Function number, slot and R3 stay the same": R0 has the number of one of the four calls in its low half; above it may
-- have anything, in each call something else. Document 02, Wish 1: "demand 3 leaves out live old guests only".
module _ (c : RangeCall) (r0 : ℕ → ℕ) (number : (a : ℕ) → r0 a % 2 ^ 32 ≡ number_of c) (v b r3 : ℕ) (s : State) (ranged : live_legacy v s ≡ false) where
  -- Condition 3: "Take every list of pieces .. that add up to n .. Every such list ends as the granules taken singly .., up to the first that is
  -- refused .. Tables, records and granules done in all are equal, and so is the refusal with all its values, or neither has one. The granules
  -- done in all are also the number of map words that differ from the start." (A piece of 0 sends no call, so it needs no exception.)
  pub pieces_are_single_steps : (ms : List ℕ)
      → (carried_on r0 v r3 ms (at b s) ≡ single_steps c v r3 (sum ms) (at b s)) × CountsChanges s (carried_on r0 v r3 ms (at b s))
  pieces_are_single_steps ms =
      let same =
      pieces_run (NotLegacy v) (single_step c v r3) (not_legacy_kept c v r3) range_limit (omega arith) (call_at r0 v r3)
      (call_agrees c r0 number v r3) ms (at b s) ranged in
      (same, rw same (single_steps_count c v r3 s (sum ms) b))

  -- carrying on comes to an end: it is complete or refused
  pub carrying_on_ends : (ms : List ℕ) → stop_of (carried_on r0 v r3 ms (at b s)) ≢ out_of_fuel
  carrying_on_ends ms =
      pieces_fuelled (NotLegacy v) (single_step c v r3) (not_legacy_kept c v r3) range_limit (omega arith) (call_at r0 v r3)
      (call_agrees c r0 number v r3) ms (at b s) ranged

  -- No two of its calls are made at one address, so that r0 gives each call any R0 with that number.
  pub calls_at_rising_addresses : (ms : List ℕ) → Rising address_in (calls_made (call_at r0 v r3) ms (at b s))
  calls_at_rising_addresses ms = calls_rise c v r3 r0 number ms (at b s) ranged

  -- and each address that is carried on fits a register
  pub carried_addresses_fit : (ms : List ℕ) → b < 2 ^ 64 → Every AddressFits (calls_made (call_at r0 v r3) ms (at b s))
  carried_addresses_fit ms h = calls_fit c v r3 r0 number ms (at b s) h ranged

-- "R1 is the number of granules changed by this call": of one range call with any count in R2
pub r1_is_what_changed : (c : RangeCall) (r0 : ℕ) → r0 % 2 ^ 32 ≡ number_of c → (v b n r3 : ℕ) (s : State) → live_legacy v s ≡ false
    → TellsChanges s (hypercall_of v (registers r0 b n r3) s)
r1_is_what_changed c r0 number v b n r3 s ranged = tells_changes c r0 number v b r3 s ranged n

-- Document 02, Wish 1: share, unshare and 0xC6000007 of a guest that knows no ranges are one single step each, with any R2 and R3; one map word
-- changes exactly where R0 = 0, and R1 = 0. Live or dead, as its record says.
pub legacy_changes_one_granule : (c : LegacyCall) (r0 : ℕ) → r0 % 2 ^ 32 ≡ legacy_number c → (v b r2 r3 : ℕ) (s : State)
    → (guest_of s.monitor v).legacy ≡ true → OneGranule c v b r2 r3 s (hypercall_of v (registers r0 b r2 r3) s)
legacy_changes_one_granule c r0 number v b r2 r3 s legacy = one_granule c r0 number v b r2 r3 s legacy

-- "A hypercall writes only the caller's row, .. the words of frames named in that row, and the caller's record."
pub footprint : (v : ℕ) (r : Registers) (s : State) → Within v s (hypercall_of v r s).left
footprint v r s = hypercall_within v r s

-- "Refusals 1 to 9 change nothing", and a hypercall answered with −1 or −3 changes nothing either: for every call and every state, such an
-- answer leaves both tables and the records as found.
pub refusals_change_nothing : (c : Call) (s : State) → is_refusal (numbers_of (step c s).answer) ≡ true → (step c s).left ≡ s
unfolding KeptRefused
refusals_change_nothing c s h = step_kept c s h

-- The same of what a program in C or Rust lends: a refusal leaves every word of the records and of both tables. A function of crates/embed
-- leaves `lent_after` of the definition of its call, which is `lent_after` of its step; `clundip_show`, which is lent these to read alone, states
-- its answer by it.
pub lent_refusals_change_nothing : (c : Call) (w f m : List ℕ)
    → let a = numbers_of (step c (state f m (monitor_in w))).answer in
    is_refusal a ≡ true → lent_after (step c) w f m ≡ lent w f m (answer_words a)
lent_refusals_change_nothing c w f m h = lent_refused c w f m h

pub exported_calls_are_steps : (c : Call) → lent_after (step c) ≡ lent_after (exported_as c)
exported_calls_are_steps c = lent_same c

-- of create, of either kind: "Refused with 7 exactly when the lengths hold and all eight are live."
pub create_refused_with_7 : (legacy : Bool) (s : State) → SevenExactly legacy s
create_refused_with_7 legacy s = seven_exactly legacy s

-- of run: "again changes nothing", where the guest is marked as run
pub run_again_changes_nothing : (v : ℕ) (s : State) → (guest_of s.monitor v).run ≡ true → (run_of v s).left ≡ s
run_again_changes_nothing v s h = run_again v s h

-- of show: "the row is handed back ..; a refusal hands back an empty part", and no other answer does
pub show_row_or_empty : (v : ℕ) (m : Monitor) (map : List ℕ) → RowOrEmpty v m map
show_row_or_empty v m map = row_or_empty v m map

-- of remove: "v0 is the number of frames"
pub remove_counts_frames : (v : ℕ) (s : State) → CountsFrames s (remove_of v s)
remove_counts_frames v s = removal_counts v s

-- "Cases marked * are proved about the rules themselves, together, as one table under one statement"
pub case_table : AsExpected cases
unfolding step donate_of hypercall_of abort_of act_of guest_access_of function_of ranged_row_of legacy_row_of step_from change_of granule_state pair_at frame_state pair_of map_word_of frame_word_of map_bits frame_bits numbers_of guest_of with_guest frames_hold map_holds
case_table = refl

-- and cases of the host's calls: each verdict that one can have, in sound and in damaged tables; what they leave; the rows that show hands back
pub host_case_table : AsExpected host_cases × (AsExpected host_left × AsExpected rows_shown)
unfolding step create_of free_from donate_of run_of remove_of cleared_of host_access_of show_of register_read_of register_write_of register_numbered row_vacant undamaged_from frames_freed frames_named bounds_of frame_state pair_of granule_state pair_at map_word_of frame_word_of map_bits frame_bits numbers_of guest_of with_guest frames_hold map_holds
host_case_table = (refl, (refl, refl))

-- and of the guests' calls: every row of their table with each of its refusals, and every outcome of an abort; and what they leave
pub guest_case_table : AsExpected guest_cases × AsExpected guest_left
unfolding step donate_of run_of remove_of cleared_of host_access_of register_read_of register_numbered hypercall_of abort_of act_of guest_access_of function_of ranged_row_of legacy_row_of step_from change_of row_vacant undamaged_from frames_freed frames_named bounds_of granule_state pair_at frame_state pair_of map_word_of frame_word_of map_bits frame_bits numbers_of guest_of with_guest frames_hold map_holds
guest_case_table = (refl, refl)

-- and of guests that know no ranges: every row of their own table, their aborts before and after run, their creation, and one beside a guest with
-- ranges; what they leave; whom condition 3 leaves out; and their single steps
pub legacy_case_table : AsExpected legacy_cases × (AsExpected legacy_left × (AsExpected left_out × AsExpected legacy_steps))
unfolding step create_of free_from donate_of run_of remove_of cleared_of host_access_of register_read_of register_write_of register_numbered hypercall_of abort_of act_of guest_access_of function_of ranged_row_of legacy_row_of step_from change_of row_vacant undamaged_from frames_freed frames_named bounds_of granule_state pair_at frame_state pair_of map_word_of frame_word_of map_bits frame_bits numbers_of guest_of with_guest frames_hold map_holds
legacy_case_table = (refl, (refl, (refl, refl)))
