-- Document 02, Wish 1: every row of the table of guests that know no ranges, with its answer and each of its refusals, their aborts and creation,
-- with all five numbers of each answer; and what these calls leave.
use Rattle.std.specs.Prelude.{Bool, true, false, List, [], ◌∷◌, ◌++◌, map, ℕ, ◌*◌, ◌-◌, ◌^◌, replicate}
use Rattle.runs.specs.Run.{Step, took, refuses}
use Rattle.runs.specs.Worked.{Case}
use Rattle.records.specs.Monitor.{with_flags, with_bitmaps, zero_guest, new_guest, mark_run, fresh, with_guest}
use Rattle.answers.specs.Answer.{numbers, verdict_with}
use Rattle.commands.specs.State.{State, state}
use Rattle.records.specs.declared.guest.Guest.{Guest}
use Rattle.answers.specs.declared.answer.Numbers.{Numbers}
use Rattle.functions.specs.Rules.{registers}
use Rattle.guest_hypercalls.specs.Calls.{hypercall_of}
use Rattle.calls.specs.Step.{fresh_state}
use Rattle.calls.specs.declared.call.Call.{Call}
use Rattle.calls.specs.declared.call.Call.TheVariants.{Create, Donate, Run, Remove, Cleared, Access, RegisterRead, RegisterWrite, Hypercall, Abort}
use Rattle.claims.specs.Case.{case, leaves}
use Rattle.claims.specs.Cases.{returns_done, returns_error}
use Rattle.claims.specs.SingleSteps.{At, at}
use Rattle.claims.specs.Pieces.{live_legacy}
use Rattle.claims.specs.LegacyCalls.{LegacyCall, legacy_share, legacy_unshare, legacy_guard_map, legacy_number, legacy_step, read_one}
use Rattle.claims.specs.HostCases.{sound, damaged, no_frames}
use Rattle.claims.specs.GuestCases.{guest_frames, map_with, caller_of, state_of, asks, each, unsupported, other_numbers, uid_answer, features_answer, is_damage, aborts, exits, resumes, excepts, left_of}

-- slot 3 is legacy: enrolled, as its creation leaves it; and in a lent record that is not
abbrev pub legacy : State
legacy = state_of true true 0

abbrev pub unenrolled : State
unenrolled = state_of true false 0

-- a map table of 63 words
abbrev pub cut_legacy : State
cut_legacy = state guest_frames (replicate 63 0) (with_guest fresh 3 (caller_of true true 0))

abbrev pub legacy_features : Numbers
legacy_features = verdict_with 10 0x29D

-- "features answers 0x29D", while VENDOR_HYP bit 0 is set; UID as before; "memory info returns R1 = 0"
abbrev pub legacy_tells : List (Case Numbers)
legacy_tells =
    case (state_of true true 0) [] (asks 0x86000000 1 2 3) (returns_error 1)
    ∷ case (state_of true true 1) [] (asks 0x86000000 1 2 3) legacy_features
    ∷ case (state_of true true 2) [] (asks 0x86000000 1 2 3) (returns_error 1)
    ∷ case (state_of true true 3) [] (asks 0x86000000 1 2 3) legacy_features
    ∷ case (state_of true true 0) [] (asks 0x8600FF01 1 2 3) (returns_error 1)
    ∷ case (state_of true true 1) [] (asks 0x8600FF01 1 2 3) uid_answer
    ∷ case legacy [] (asks 0xC6000002 0 0 0) (verdict_with 10 4096)
    ∷ case unenrolled [] (asks 0xC6000002 0 0 0) (verdict_with 10 4096)
    ∷ case legacy [] (asks 0xC6000002 1 0 0) (returns_error 3)
    ∷ case legacy [] (asks 0xC6000002 0 (2 ^ 32) 0) (returns_error 3)
    ∷ case legacy [] (asks 0xC6000002 0 0 1) (returns_error 3)
    ∷ []

-- "share and unshare want R2 zero, do one granule and return R1 = 0"
abbrev pub legacy_shares : List (Case Numbers)
legacy_shares =
    case legacy [] (asks 0xC6000003 0 0 0) (returns_done 0)
    ∷ case legacy [] (asks 0xFFFFFFFFC6000003 0x4000 0 0) (returns_done 0)
    -- open to the host, and the next granule is not
    ∷ case legacy (asks 0xC6000003 0x4000 0 0 ∷ []) (Access 4) (verdict_with 0 1)
    ∷ case legacy (asks 0xC6000003 0x4000 0 0 ∷ []) (Access 5) (verdict_with 0 0)
    ∷ case legacy [] (asks 0xC6000003 0 1 0) (returns_error 3)
    ∷ case legacy [] (asks 0xC6000003 0 (2 ^ 32) 0) (returns_error 3)
    ∷ case legacy [] (asks 0xC6000003 0 0 1) (returns_error 3)
    ∷ case legacy [] (asks 0xC6000003 0 0 (2 ^ 32)) (returns_error 3)
    ∷ case legacy [] (asks 0xC6000003 0x6000 0 0) is_damage
    ∷ case legacy [] (asks 0xC6000003 0x6000 1 0) (returns_error 3)
    ∷ case unenrolled [] (asks 0xC6000003 0 0 0) (returns_done 0)
    ∷ case legacy [] (asks 0xC6000004 0x1000 0 0) (returns_done 0)
    ∷ case unenrolled [] (asks 0xC6000004 0x1000 0 0) (returns_done 0)
    ∷ case legacy (asks 0xC6000004 0x1000 0 0 ∷ []) (Access 1) (verdict_with 0 0)
    ∷ case legacy (asks 0xC6000003 0x4000 0 0 ∷ asks 0xC6000003 0x5000 0 0 ∷ asks 0xC6000004 0x4000 0 0 ∷ []) (Access 5) (verdict_with 0 1)
    ∷ case legacy [] (asks 0xC6000004 0x1000 1 0) (returns_error 3)
    ∷ case legacy [] (asks 0xC6000004 0x1000 (2 ^ 32) 0) (returns_error 3)
    ∷ case legacy [] (asks 0xC6000004 0x1000 0 1) (returns_error 3)
    ∷ case legacy [] (asks 0xC6000004 0x1000 0 (2 ^ 32)) (returns_error 3)
    ∷ case legacy [] (asks 0xC6000004 0x6000 0 0) is_damage
    ∷ case legacy [] (asks 0xC6000004 0x6000 1 0) (returns_error 3)
    ∷ []
    -- shared, vacant, guarded, beyond the row, by far, no base, no base of a damaged granule
    ++ (each legacy 0xC6000003 0 (returns_error 3) (0x1000 ∷ 0x2000 ∷ 0x3000 ∷ 0x8000 ∷ 0x100004000 ∷ 0x4001 ∷ 0x4800 ∷ 0x6001 ∷ [])
    -- private, vacant, guarded, and so on
    ++ each legacy 0xC6000004 0 (returns_error 3) (0 ∷ 0x2000 ∷ 0x3000 ∷ 0x8000 ∷ 0x100001000 ∷ 0x1001 ∷ 0x1800 ∷ 0x6001 ∷ []))

-- "0xC6000007 is that document's MMIO guard, with R2 and R3 zero, −3 on error and no enrolment"
abbrev pub legacy_guards : List (Case Numbers)
legacy_guards =
    case legacy [] (asks 0xC6000007 0x2000 0 0) (returns_done 0)
    ∷ case unenrolled [] (asks 0xC6000007 0x2000 0 0) (returns_done 0)
    ∷ case legacy (asks 0xC6000007 0x2000 0 0 ∷ []) (Abort 3 0x2ABC) (verdict_with 11 0x2ABC)
    ∷ case legacy [] (asks 0xC6000007 0x2000 1 0) (returns_error 3)
    ∷ case legacy [] (asks 0xC6000007 0x2000 (2 ^ 32) 0) (returns_error 3)
    ∷ case legacy [] (asks 0xC6000007 0x2000 0 1) (returns_error 3)
    ∷ case legacy [] (asks 0xC6000007 0x2000 0 (2 ^ 32)) (returns_error 3)
    ∷ case legacy [] (asks 0xC6000007 0x6000 0 0) is_damage
    ∷ case legacy [] (asks 0xC6000007 0x6000 1 0) (returns_error 3)
    ∷ case unenrolled [] (asks 0xC6000007 0x6000 0 0) is_damage
    ∷ []
    -- private, shared, guarded, beyond the row, by far, no base, no base of a damaged granule
    ++ each legacy 0xC6000007 0 (returns_error 3) (0 ∷ 0x1000 ∷ 0x3000 ∷ 0x8000 ∷ 0x100002000 ∷ 0x2001 ∷ 0x2800 ∷ 0x6001 ∷ [])

-- relinquish as before
abbrev pub legacy_relinquishes : List (Case Numbers)
legacy_relinquishes =
    case legacy [] (asks 0xC6000009 0 0 0) (returns_done 0)
    ∷ case unenrolled [] (asks 0xC6000009 0 0 0) (returns_done 0)
    ∷ case legacy (asks 0xC6000009 0 0 0 ∷ []) (Abort 3 0) (verdict_with 12 0)
    ∷ case legacy (asks 0xC6000009 0 0 0 ∷ []) (Cleared 0) (verdict_with 0 0)
    ∷ case legacy [] (asks 0xC6000009 0 1 0) (returns_error 3)
    ∷ case legacy [] (asks 0xC6000009 0 0 1) (returns_error 3)
    ∷ case legacy [] (asks 0xC6000009 0x6000 0 0) is_damage
    ∷ []
    ++ each legacy 0xC6000009 0 (returns_error 3) (0x1000 ∷ 0x2000 ∷ 0x3000 ∷ 0x8000 ∷ 0x4001 ∷ [])

-- "Calls 5, 6, 8, 10 and 11 answer −1", with registers that a guest with ranges could call with, at a damaged granule, and with any
abbrev pub legacy_unsupported : List (Case Numbers)
legacy_unsupported =
    case legacy [] (asks 0xC6000008 0x3000 0 0) (returns_error 1)
    ∷ case legacy [] (asks 0xC600000A 0x2000 1 0) (returns_error 1)
    ∷ case legacy [] (asks 0xC600000B 0x3000 1 0) (returns_error 1)
    ∷ case legacy [] (asks 0xC6000008 0x6000 0 0) (returns_error 1)
    ∷ case legacy [] (asks 0xC600000A 0x6000 1 0) (returns_error 1)
    ∷ case legacy [] (asks 0xC600000B 0x6000 1 0) (returns_error 1)
    ∷ case legacy [] (asks 0xC6000005 1 2 3) (returns_error 1)
    ∷ case legacy [] (asks 0xC6000006 1 2 3) (returns_error 1)
    ∷ case unenrolled (asks 0xC6000006 0 0 0 ∷ []) (Abort 3 0x2000) (verdict_with 11 0x2000)
    ∷ []
    ++ unsupported (state_of true true 1) (0xC6000005 ∷ 0xC6000006 ∷ 0xC6000008 ∷ 0xC600000A ∷ 0xC600000B ∷ other_numbers)

-- verdicts 1 to 3, before all else
abbrev pub legacy_callers : List (Case Numbers)
legacy_callers =
    case cut_legacy [] (asks 0xC6000003 0 1 0) (verdict_with 1 0)
    ∷ case cut_legacy [] (Abort 2 0) (verdict_with 1 0)
    ∷ case legacy [] (Hypercall 4 (registers 0xC6000003 0 0 0)) (verdict_with 2 0)
    ∷ case legacy [] (Hypercall 8 (registers 0xC6000003 0 0 0)) (verdict_with 2 0)
    ∷ case legacy [] (Abort 4 0) (verdict_with 2 0)
    ∷ case legacy [] (Hypercall 2 (registers 0xC6000003 1 0 0)) (verdict_with 3 0)
    ∷ case legacy [] (Hypercall 2 (registers 0xC6000005 0 0 0)) (verdict_with 3 0)
    ∷ case legacy [] (Abort 2 0) (verdict_with 3 0)
    ∷ []

-- "such a guest counts as enrolled from creation": private, shared; guarded; vacant and beyond the row; damaged. The flag as it is stored decides.
abbrev pub legacy_aborts : List (Case Numbers)
legacy_aborts =
    aborts legacy resumes (0 ∷ 0x1ABC ∷ [])
    ++ (aborts legacy exits (0x3000 ∷ 0x3FFF ∷ [])
    ++ (aborts legacy excepts (0x2000 ∷ 0x2ABC ∷ 0x8000 ∷ (2 ^ 64 - 1) ∷ [])
    ++ (aborts unenrolled exits (0x2000 ∷ 0x8000 ∷ [])
    ++ aborts legacy (λ a. is_damage) (0x6000 ∷ []))))

-- a legacy guest in slot 0 and a guest with ranges in slot 1, each with frames at granules 5 and 6, both run
abbrev pub beside : State
beside =
    state (0 ∷ 0 ∷ 0 ∷ 0x01000005 ∷ 0x01000006 ∷ 0 ∷ 0 ∷ 0x02000005 ∷ 0x02000006 ∷ [])
    (replicate 5 0 ++ (0x40000003 ∷ 0x40000004 ∷ 0 ∷ replicate 5 0 ++ (0x40000007 ∷ 0x40000008 ∷ 0 ∷ replicate 48 0)))
    (with_guest (with_guest fresh 0 (mark_run (new_guest true))) 1 (mark_run (new_guest false)))

abbrev pub of0 : ℕ → ℕ → ℕ → Call
of0 n g c = Hypercall 0 (registers n (g * 4096) c 0)

abbrev pub of1 : ℕ → ℕ → ℕ → Call
of1 n g c = Hypercall 1 (registers n (g * 4096) c 0)

-- creation, with the tests and v0 of create; an abort at a vacant granule before and after run; and the two kinds side by side
abbrev pub legacy_creations : List (Case Numbers)
legacy_creations =
    case sound [] (Create true) (verdict_with 0 2)
    ∷ case damaged [] (Create true) (verdict_with 6 0)
    ∷ case no_frames [] (Create true) (verdict_with 1 0)
    ∷ case (fresh_state 1 1) (replicate 7 (Create true)) (Create true) (verdict_with 0 7)
    ∷ case (fresh_state 1 1) (replicate 8 (Create true)) (Create true) (verdict_with 7 0)
    ∷ case (fresh_state 1 1) (Create true ∷ []) (RegisterRead 0 2) (verdict_with 0 1)
    ∷ case (fresh_state 1 1) (Create true ∷ []) (Abort 0 0) (verdict_with 3 0)
    ∷ case (fresh_state 1 1) (Create true ∷ Run 0 ∷ []) (Abort 0 0) (verdict_with 12 0)
    -- a guest with ranges that takes the slot afterwards
    ∷ case beside (Remove 0 ∷ Create false ∷ Run 0 ∷ []) (Abort 0 0x7000) (verdict_with 11 0x7000)
    ∷ case beside (Remove 0 ∷ Create false ∷ Run 0 ∷ []) (of0 0x86000000 0 0) features_answer
    ∷ case beside [] (of0 0x86000000 0 0) legacy_features
    ∷ case beside [] (of1 0x86000000 0 0) features_answer
    ∷ case beside [] (of0 0xC6000002 0 0) (verdict_with 10 4096)
    ∷ case beside [] (of1 0xC6000002 0 0) (numbers 10 4096 1 0 0)
    ∷ case beside [] (of0 0xC6000003 5 0) (returns_done 0)
    ∷ case beside [] (of1 0xC6000003 5 0) (returns_done 1)
    ∷ case beside [] (of0 0xC6000003 5 2) (returns_error 3)
    ∷ case beside [] (of1 0xC6000003 5 2) (returns_done 2)
    ∷ case beside (of0 0xC6000003 5 0 ∷ of1 0xC6000003 5 2 ∷ []) (Access 3) (verdict_with 0 1)
    ∷ case beside (of0 0xC6000003 5 0 ∷ of1 0xC6000003 5 2 ∷ []) (Access 4) (verdict_with 0 0)
    ∷ case beside (of0 0xC6000003 5 0 ∷ of1 0xC6000003 5 2 ∷ []) (Access 8) (verdict_with 0 1)
    ∷ case beside [] (of0 0xC6000007 7 0) (returns_done 0)
    ∷ case beside [] (of1 0xC6000007 7 0) (returns_error 1)
    ∷ case beside [] (Abort 0 0x7000) (verdict_with 12 0)
    ∷ case beside [] (Abort 1 0x7000) (verdict_with 11 0x7000)
    ∷ case beside (of0 0xC6000003 5 0 ∷ []) (Remove 0) (verdict_with 0 2)
    ∷ []

abbrev pub legacy_cases : List (Case Numbers)
legacy_cases =
    legacy_tells
    ++ (legacy_shares
    ++ (legacy_guards ++ (legacy_relinquishes ++ (legacy_unsupported ++ (legacy_callers ++ (legacy_aborts ++ legacy_creations))))))

-- one frame, one granule a slot, and a guest in slot 0
abbrev pub alone : Guest → State
alone g = state (0 ∷ []) (replicate 8 0) (with_guest fresh 0 g)

-- what these calls leave: both tables and the records
abbrev pub legacy_left : List (Case State)
legacy_left =
    left_of true true (asks 0xC6000003 0x4000 0 0)
    (0x04000000 ∷ 0x04010001 ∷ 0 ∷ 0xFF000000 ∷ 0x04010004 ∷ 0x04000005 ∷ 0 ∷ 0x04000007 ∷ [])
    (0x40000000 ∷ 0x80000001 ∷ 0 ∷ 0xC0000000 ∷ 0x80000004 ∷ 0x40000005 ∷ 0x40000002 ∷ 0x40000007 ∷ [])
    ∷ left_of true true (asks 0xC6000004 0x1000 0 0)
    (0x04000000 ∷ 0x04000001 ∷ 0 ∷ 0xFF000000 ∷ 0x04000004 ∷ 0x04000005 ∷ 0 ∷ 0x04000007 ∷ [])
    (0x40000000 ∷ 0x40000001 ∷ 0 ∷ 0xC0000000 ∷ 0x40000004 ∷ 0x40000005 ∷ 0x40000002 ∷ 0x40000007 ∷ [])
    ∷ left_of true false (asks 0xC6000007 0x2000 0 0) guest_frames
    (0x40000000 ∷ 0x80000001 ∷ 0xC0000000 ∷ 0xC0000000 ∷ 0x40000004 ∷ 0x40000005 ∷ 0x40000002 ∷ 0x40000007 ∷ [])
    ∷ left_of true true (asks 0xC6000009 0 0 0)
    (0xFF000000 ∷ 0x04010001 ∷ 0 ∷ 0xFF000000 ∷ 0x04000004 ∷ 0x04000005 ∷ 0 ∷ 0x04000007 ∷ [])
    (0 ∷ 0x80000001 ∷ 0 ∷ 0xC0000000 ∷ 0x40000004 ∷ 0x40000005 ∷ 0x40000002 ∷ 0x40000007 ∷ [])
    ∷ leaves unenrolled (asks 0xC6000006 0 0 0 ∷ asks 0xC6000003 0 1 0 ∷ asks 0xC600000A 0x2000 1 0 ∷ []) unenrolled
    -- the record that creation sets, and run and a register's write keep its kind; the write also where a guest with ranges has enrolled
    ∷ leaves (fresh_state 1 1) (Create true ∷ Create false ∷ [])
    (state (0 ∷ []) (replicate 8 0) (record { guests = new_guest true ∷ new_guest false ∷ replicate 6 zero_guest }))
    ∷ leaves (fresh_state 1 1) (Create true ∷ [])
    (alone (with_flags true true false true (with_bitmaps 0 0 1 zero_guest)))
    ∷ leaves (fresh_state 1 1) (Create true ∷ RegisterWrite 0 2 0 ∷ Run 0 ∷ [])
    (alone (with_flags true true true true zero_guest))
    ∷ leaves (alone (with_flags true false false true zero_guest)) (RegisterWrite 0 2 1 ∷ [])
    (alone (with_flags true false false true (with_bitmaps 0 0 1 zero_guest)))
    ∷ leaves (fresh_state 1 1) (Create true ∷ Run 0 ∷ Remove 0 ∷ []) (fresh_state 1 1)
    -- a dead slot is free, whatever its lent record says
    ∷ leaves (alone (with_flags false true true true zero_guest)) (Create false ∷ []) (alone (new_guest false))
    ∷ leaves (fresh_state 9 8) (Create true ∷ Create false ∷ Donate 0 3 5 ∷ Donate 0 4 6 ∷ Donate 1 7 5 ∷ Donate 1 8 6 ∷ Run 0 ∷ Run 1 ∷ []) beside
    ∷ []

-- "demand 3 leaves out live old guests only": run or not, but no dead slot whose record says legacy, no guest with ranges, no slot above 7
abbrev pub left_out : List (Case Bool)
left_out =
    record { found = live_legacy 3 legacy; expected = true }
    ∷ record { found = live_legacy 2 legacy; expected = true }
    ∷ record { found = live_legacy 4 legacy; expected = false }
    ∷ record { found = live_legacy 11 legacy; expected = false }
    ∷ record { found = live_legacy 3 (state_of false true 0); expected = false }
    ∷ []

-- the one step of a call of slot v at b with R2 and R3, and the call itself
abbrev step_case : LegacyCall → State → ℕ → ℕ → ℕ → ℕ → Step At Numbers → Case (Step At Numbers × Step At Numbers)
step_case c s v b r2 r3 o =
    record {
      found = (legacy_step c v r2 r3 (at b s), read_one b (hypercall_of v (registers (legacy_number c) b r2 r3) s));
      expected = (o, o);
    }

-- refused with −3 by slot 3, each at these bases with R2 and R3 zero
abbrev refused_at : LegacyCall → List ℕ → List (Case (Step At Numbers × Step At Numbers))
refused_at c bs = map (λ b. step_case c legacy 3 b 0 0 (refuses (returns_error 3))) bs

-- each step with each of its tests, and where two fail the first
abbrev pub legacy_steps : List (Case (Step At Numbers × Step At Numbers))
legacy_steps =
    step_case legacy_share cut_legacy 4 1 1 1 (refuses (verdict_with 1 0))
    ∷ step_case legacy_share legacy 4 1 1 1 (refuses (verdict_with 2 0))
    ∷ step_case legacy_share legacy 5 0 0 0 (refuses (verdict_with 2 0))
    ∷ step_case legacy_share legacy 2 1 1 1 (refuses (verdict_with 3 0))
    ∷ step_case legacy_share legacy 3 0x6001 0 0 (refuses (returns_error 3))
    ∷ step_case legacy_share legacy 3 0x6000 1 0 (refuses (returns_error 3))
    ∷ step_case legacy_share legacy 3 0x6000 0 1 (refuses (returns_error 3))
    ∷ step_case legacy_share legacy 3 0x6000 0 0 (refuses (verdict_with 6 0))
    ∷ step_case legacy_unshare legacy 3 0x6000 0 0 (refuses (verdict_with 6 0))
    ∷ step_case legacy_guard_map legacy 3 0x6000 0 0 (refuses (verdict_with 6 0))
    ∷ step_case legacy_share legacy 3 0x4000 0 0
    (took (at 0x5000 (state (0x04000000 ∷ 0x04010001 ∷ 0 ∷ 0xFF000000 ∷ 0x04010004 ∷ 0x04000005 ∷ 0 ∷ 0x04000007 ∷ [])
    (map_with (0x40000000 ∷ 0x80000001 ∷ 0 ∷ 0xC0000000 ∷ 0x80000004 ∷ 0x40000005 ∷ 0x40000002 ∷ 0x40000007 ∷ [])) legacy.monitor)))
    ∷ step_case legacy_unshare legacy 3 0x1000 0 0
    (took (at 0x2000 (state (0x04000000 ∷ 0x04000001 ∷ 0 ∷ 0xFF000000 ∷ 0x04000004 ∷ 0x04000005 ∷ 0 ∷ 0x04000007 ∷ [])
    (map_with (0x40000000 ∷ 0x40000001 ∷ 0 ∷ 0xC0000000 ∷ 0x40000004 ∷ 0x40000005 ∷ 0x40000002 ∷ 0x40000007 ∷ [])) legacy.monitor)))
    ∷ step_case legacy_guard_map unenrolled 3 0x2000 0 0
    (took (at 0x3000 (state guest_frames
    (map_with (0x40000000 ∷ 0x80000001 ∷ 0xC0000000 ∷ 0xC0000000 ∷ 0x40000004 ∷ 0x40000005 ∷ 0x40000002 ∷ 0x40000007 ∷ [])) unenrolled.monitor)))
    ∷ []
    ++ (refused_at legacy_share (0x1000 ∷ 0x2000 ∷ 0x3000 ∷ 0x8000 ∷ []) ++ (refused_at legacy_unshare (0 ∷ 0x2000 ∷ 0x3000 ∷ 0x8000 ∷ [])
    ++ refused_at legacy_guard_map (0 ∷ 0x1000 ∷ 0x3000 ∷ 0x8000 ∷ [])))
