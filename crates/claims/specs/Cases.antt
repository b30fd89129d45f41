-- Document 01, "Bench sheet": the cases marked *, with all five numbers of each answer.
use Rattle.std.specs.Prelude.{false, List, [], ◌∷◌, ℕ, ◌-◌, ◌^◌, replicate, set}
use Rattle.runs.specs.Worked.{Case}
use Rattle.records.specs.Monitor.{new_guest, mark_run, fresh, with_guest}
use Rattle.answers.specs.Answer.{numbers, verdict_with}
use Rattle.commands.specs.State.{State, state}
use Rattle.records.specs.declared.guest.Guest.{Guest}
use Rattle.answers.specs.declared.answer.Numbers.{Numbers}
use Rattle.functions.specs.Rules.{registers}
use Rattle.calls.specs.declared.call.Call.{Call}
use Rattle.calls.specs.declared.call.Call.TheVariants.{Donate, Hypercall, Abort}
use Rattle.claims.specs.Case.{case}

-- a guest that was run
abbrev pub caller : Guest
caller = mark_run (new_guest false)

-- "Slot 0, F = 256, W = 64, run, granule 5 private, 6 vacant": the frame is 3, and all other granules are vacant too
abbrev pub bench : State
bench = state (set (replicate 256 0) 3 0x01000005) (set (replicate 512 0) 5 0x40000003) (with_guest fresh 0 caller)

-- the answers of the sheet: 0 with R1 granules done, −3, −1
abbrev pub returns_done : ℕ → Numbers
returns_done k = numbers 10 0 k 0 0

abbrev pub returns_error : ℕ → Numbers
returns_error n = verdict_with 10 (2 ^ 64 - n)

-- calls of slot 0
abbrev pub hypercall0 : ℕ → ℕ → ℕ → ℕ → Call
hypercall0 a b c d = Hypercall 0 (registers a b c d)

abbrev pub share : ℕ → ℕ → Call
share b n = hypercall0 0xC6000003 b n 0

abbrev pub enroll_call : Call
enroll_call = hypercall0 0xC6000006 0 0 0

-- in the sheet's order
abbrev pub cases : List (Case Numbers)
cases =
    case bench [] (share 0x5000 2) (returns_done 1)
    ∷ case bench (share 0x5000 2 ∷ []) (share 0x6000 1) (returns_error 3)
    ∷ case bench [] (share 0x5000 0) (returns_done 1)
    ∷ case bench [] (share 0x5001 0) (returns_error 3)
    ∷ case bench [] (hypercall0 0xC6000003 0x5000 0 1) (returns_error 3)
    ∷ case bench [] (share 0xFFFFFFFFFFFFF000 2) (returns_error 3)
    -- "Granule 63 private": frame 4 is donated there
    ∷ case bench (Donate 0 4 63 ∷ []) (share 0x3F000 2) (returns_done 1)
    ∷ case bench [] (hypercall0 0x1C6000003 0x5000 0 0) (returns_done 1)
    ∷ case bench [] (hypercall0 0xC600000C 0 0 0) (returns_error 1)
    ∷ case bench (enroll_call ∷ []) (hypercall0 0xC600000A 0x7000 0 0) (returns_error 1)
    ∷ case bench (enroll_call ∷ []) (hypercall0 0xC6000007 0x5000 0 0) (returns_error 1)
    ∷ case bench [] (Abort 0 0x6000) (verdict_with 11 0x6000)
    ∷ case bench (enroll_call ∷ []) (Abort 0 0x6000) (verdict_with 12 0)
    ∷ []
