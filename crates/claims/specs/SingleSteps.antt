-- Document 01, "Ranges for demand 3": "The granules taken singly are a definition, made from these rules and from no answer of the program."
use Rattle.std.specs.Prelude.{Bool, true, false, ◌&&◌, not, List, [], ◌∷◌, ◌++◌, ℕ, ◌+◌, ◌*◌, ◌-◌, ◌/◌, ◌%◌, ◌^◌, eqb, ltb, length, get_or, set}
use Rattle.runs.specs.Run.{Step, took, End, gated, run}
use Rattle.words.specs.Granule.{granule_size, granule_of, is_base}
use Rattle.tables.specs.Length.{width_of, lengths_hold}
use Rattle.tables.specs.Row.{word_index}
use Rattle.pairs.specs.Pair.{pair_at, granule_undamaged}
use Rattle.pairs.specs.declared.pairs.GranuleState.{GranuleState}
use Rattle.pairs.specs.declared.pairs.GranuleState.TheVariants as granule-state
use Rattle.records.specs.Monitor.{guest_of}
use Rattle.answers.specs.Answer.{verdict_with}
use Rattle.commands.specs.State.{State, state}
use Rattle.commands.specs.Tests.{Tests, first_refusal}
use Rattle.records.specs.declared.guest.Guest.{Guest}
use Rattle.answers.specs.declared.answer.Numbers.{Numbers}

-- "share, unshare and both range guard calls"
pub data RangeCall : Type 0 where
  share : RangeCall
  unshare : RangeCall
  range_guard_map : RangeCall
  range_guard_unmap : RangeCall

abbrev pub number_of : RangeCall → ℕ
number_of share = 0xC6000003
number_of unshare = 0xC6000004
number_of range_guard_map = 0xC600000A
number_of range_guard_unmap = 0xC600000B

-- "verdict 10 with IP or NS where no other is named"; "NS is −1, IP is −3", sign-extended
abbrev pub error_of : RangeCall → Numbers
error_of share = verdict_with 10 (2 ^ 64 - 3)
error_of unshare = verdict_with 10 (2 ^ 64 - 3)
error_of range_guard_map = verdict_with 10 (2 ^ 64 - 1)
error_of range_guard_unmap = verdict_with 10 (2 ^ 64 - 1)

-- "registers by the table of guest calls, with R1 this address and R2 = 1": the base, and R3 zero for share and unshare
abbrev pub registers_right : RangeCall → ℕ → ℕ → Bool
registers_right share b r3 = is_base b && eqb r3 0
registers_right unshare b r3 = is_base b && eqb r3 0
registers_right range_guard_map b r3 = is_base b
registers_right range_guard_unmap b r3 = is_base b

-- "enrolment for a range guard call"
abbrev pub enrolment_right : RangeCall → Guest → Bool
enrolment_right share g = true
enrolment_right unshare g = true
enrolment_right range_guard_map g = g.enrolled
enrolment_right range_guard_unmap g = g.enrolled

-- "the kind that the call needs": private, shared, vacant, guarded
abbrev pub kind_right : RangeCall → GranuleState → Bool
kind_right c granule-state.Damaged = false
kind_right share granule-state.Vacant = false
kind_right unshare granule-state.Vacant = false
kind_right range_guard_map granule-state.Vacant = true
kind_right range_guard_unmap granule-state.Vacant = false
kind_right share (granule-state.Frame s f) = not s
kind_right unshare (granule-state.Frame s f) = s
kind_right range_guard_map (granule-state.Frame s f) = false
kind_right range_guard_unmap (granule-state.Frame s f) = false
kind_right share granule-state.Guarded = false
kind_right unshare granule-state.Guarded = false
kind_right range_guard_map granule-state.Guarded = false
kind_right range_guard_unmap granule-state.Guarded = true

-- the tests of one step at the address b, "in this order": first "verdicts 1 to 3; registers ..; enrolment"
abbrev pub verdict_tests : ℕ → State → Tests Numbers
verdict_tests v s =
    let guest = guest_of s.monitor v in
    (lengths_hold (length s.frames) (length s.map), verdict_with 1 0)
    ∷ (ltb v 8 && guest.live, verdict_with 2 0)
    ∷ (guest.run, verdict_with 3 0)
    ∷ []

abbrev pub call_tests : RangeCall → ℕ → ℕ → ℕ → State → Tests Numbers
call_tests c v r3 b s =
    let guest = guest_of s.monitor v in
    verdict_tests v s ++ ((registers_right c b r3, error_of c) ∷ (enrolment_right c guest, error_of c) ∷ [])

-- then "the granule below W; verdict 6 for this granule with its frame; the kind that the call needs", of a granule in the state k; n is the
-- answer "where no other is named"
abbrev pub granule_tests : Numbers → RangeCall → Bool → GranuleState → Tests Numbers
granule_tests n c below k = (below, n) ∷ (granule_undamaged k, verdict_with 6 0) ∷ (kind_right c k, n) ∷ []

abbrev pub step_tests : RangeCall → ℕ → ℕ → ℕ → State → Tests Numbers
step_tests c v r3 b s =
    call_tests c v r3 b s
    ++ granule_tests (error_of c) c (ltb (granule_of b) (width_of (length s.map))) (pair_at s.frames s.map v (granule_of b))

-- f, where a granule has a frame
abbrev pub frame_in : GranuleState → ℕ
frame_in granule-state.Vacant = 0
frame_in (granule-state.Frame s f) = f
frame_in granule-state.Guarded = 0
frame_in granule-state.Damaged = 0

-- "share makes the map word 0x80000000 + f .., unshare 0x40000000 + f ..; range guard map makes the map word guarded, range guard unmap makes it 0"
abbrev pub word_made : RangeCall → ℕ → ℕ
word_made share f = 0x80000000 + f
word_made unshare f = 0x40000000 + f
word_made range_guard_map f = 0xC0000000
word_made range_guard_unmap f = 0

-- a frame word with its shared byte, the one below the top byte, made x
abbrev pub with_shared_byte : ℕ → ℕ → ℕ
with_shared_byte x w = w / 2 ^ 24 * 2 ^ 24 + (x * 2 ^ 16 + w % 2 ^ 16)

-- share makes "the shared byte of frame f's word 1, unshare .. 0"
abbrev pub frames_made : RangeCall → ℕ → List ℕ → List ℕ
frames_made share f frames = set frames f (with_shared_byte 1 (get_or frames f 0))
frames_made unshare f frames = set frames f (with_shared_byte 0 (get_or frames f 0))
frames_made range_guard_map f frames = frames
frames_made range_guard_unmap f frames = frames

-- the state with the granule at the address b changed: "Nothing else changes"
abbrev pub changed_at : RangeCall → ℕ → ℕ → State → State
changed_at c v b s =
    let f = frame_in (pair_at s.frames s.map v (granule_of b)) in
    state (frames_made c f s.frames) (set s.map (word_index (length s.map) v (granule_of b)) (word_made c f)) s.monitor

-- the address of the next granule, and the state
pub data At : Type 0 where
  at : ℕ → State → At

-- "The first test that fails ends it with that refusal, its verdict and v0 to v3"; otherwise the granule changes, and the address grows by 4,096
unfoldable pub single_step : RangeCall → ℕ → ℕ → At → Step At Numbers
single_step c v r3 (at b s) = gated (first_refusal (step_tests c v r3 b s)) (took (at (b + granule_size) (changed_at c v b s)))

-- n granules of slot v taken singly: "At t = n it ends, not refused."
abbrev pub single_steps : RangeCall → ℕ → ℕ → ℕ → At → End At Numbers
single_steps c v r3 n p = run (single_step c v r3) n p
