-- Document 01, "Guest calls" and "Verdicts": every row of the table of guest calls with its answer and each of its refusals, and every outcome
-- of an abort, with all five numbers of each answer.
use Rattle.std.specs.Prelude.{Bool, true, false, List, [], ◌∷◌, ◌++◌, map, ℕ, ◌-◌, ◌^◌, replicate}
use Rattle.runs.specs.Worked.{Case}
use Rattle.records.specs.Monitor.{with_flags, with_bitmaps, zero_guest, new_guest, fresh, with_guest}
use Rattle.answers.specs.Answer.{numbers, verdict_with}
use Rattle.commands.specs.State.{State, state}
use Rattle.records.specs.declared.guest.Guest.{Guest}
use Rattle.records.specs.declared.monitor.Monitor.{Monitor}
use Rattle.answers.specs.declared.answer.Numbers.{Numbers}
use Rattle.functions.specs.Rules.{registers}
use Rattle.calls.specs.declared.call.Call.{Call}
use Rattle.calls.specs.declared.call.Call.TheVariants.{Donate, Cleared, Access, RegisterRead, Hypercall, Abort}
use Rattle.claims.specs.Case.{case, leaves}
use Rattle.claims.specs.Cases.{returns_done, returns_error}

-- eight frames: private to granule 0 of slot 3; shared, of its granule 1; the host's; waiting; private to its granules 4 and 5; the host's;
-- private to its granule 7
abbrev pub guest_frames : List ℕ
guest_frames = 0x04000000 ∷ 0x04010001 ∷ 0 ∷ 0xFF000000 ∷ 0x04000004 ∷ 0x04000005 ∷ 0 ∷ 0x04000007 ∷ []

-- its row: granule 0 private, 1 shared, 2 vacant, 3 guarded, 4 and 5 private, 6 damaged, 7 private
abbrev pub guest_row : List ℕ
guest_row = 0x40000000 ∷ 0x80000001 ∷ 0 ∷ 0xC0000000 ∷ 0x40000004 ∷ 0x40000005 ∷ 0x40000002 ∷ 0x40000007 ∷ []

-- slot 3 was run; it is legacy or not, enrolled or not, and has this VENDOR_HYP
abbrev pub caller_of : Bool → Bool → ℕ → Guest
caller_of k e x = with_flags true k true e (with_bitmaps 5 6 x zero_guest)

-- slot 2 is live and was never run; slot 4 is not live, and was run and enrolled; both of the same kind
abbrev pub callers_of : Bool → Bool → ℕ → Monitor
callers_of k e x = with_guest (with_guest (with_guest fresh 2 (new_guest k)) 3 (caller_of k e x)) 4 (with_flags false k true true (new_guest k))

-- rows of eight granules, this row of slot 3; granule 0 of slot 2 is damaged
abbrev pub map_with : List ℕ → List ℕ
map_with row = replicate 16 0 ++ (0x40000002 ∷ replicate 7 0 ++ (row ++ replicate 32 0))

abbrev pub state_of : Bool → Bool → ℕ → State
state_of k e x = state guest_frames (map_with guest_row) (callers_of k e x)

-- with ranges
abbrev pub guest_state : Bool → ℕ → State
guest_state = state_of false

abbrev pub plain : State
plain = guest_state false 0

abbrev pub enrolled : State
enrolled = guest_state true 0

-- 128 granules of slot 3, all vacant
abbrev pub wide : State
wide = state (0 ∷ []) (replicate 1024 0) (with_guest fresh 3 (caller_of false true 0))

-- a map table of 63 words
abbrev pub cut : State
cut = state guest_frames (replicate 63 0) (with_guest fresh 3 (caller_of false true 0))

-- a frame table of no words
abbrev pub no_guest_frames : State
no_guest_frames = state [] plain.map plain.monitor

-- a call of slot 3 with R0 to R3
abbrev pub asks : ℕ → ℕ → ℕ → ℕ → Call
asks a b c d = Hypercall 3 (registers a b c d)

-- the same call with each R1 of a list, and one answer
abbrev pub each : State → ℕ → ℕ → Numbers → List ℕ → List (Case Numbers)
each s n count answer bases = map (λ b. case s [] (asks n b count 0) answer) bases

-- with each function number of a list, all of which answer NS
abbrev pub unsupported : State → List ℕ → List (Case Numbers)
unsupported s ns = map (λ n. case s [] (asks n 0 0 0) (returns_error 1)) ns

-- the numbers beside those of the table
abbrev pub other_numbers : List ℕ
other_numbers = 0 ∷ 0x85FFFFFF ∷ 0x86000001 ∷ 0x86000003 ∷ 0x8600FF00 ∷ 0x8600FF02 ∷ 0xC6000000 ∷ 0xC6000001 ∷ 0xC600000C ∷ 0xFFFFFFFF ∷ []

abbrev pub uid_answer : Numbers
uid_answer = numbers 10 0xB66FB428 0xE911C52E 0x564BCAA9 0x743A004D

abbrev pub features_answer : Numbers
features_answer = verdict_with 10 0xFFD

abbrev pub info_answer : Numbers
info_answer = numbers 10 4096 1 0 0

-- verdict 6
abbrev pub is_damage : Numbers
is_damage = verdict_with 6 0

-- Features and UID, "NS while VENDOR_HYP bit 0 is clear": VENDOR_HYP 0 to 3, with registers that are not looked at. Memory info and guard info.
abbrev pub tell_cases : List (Case Numbers)
tell_cases =
    case (guest_state false 0) [] (asks 0x86000000 1 2 3) (returns_error 1)
    ∷ case (guest_state false 1) [] (asks 0x86000000 1 2 3) features_answer
    ∷ case (guest_state false 2) [] (asks 0x86000000 1 2 3) (returns_error 1)
    ∷ case (guest_state false 3) [] (asks 0x86000000 1 2 3) features_answer
    ∷ case (guest_state false 0) [] (asks 0x8600FF01 1 2 3) (returns_error 1)
    ∷ case (guest_state false 1) [] (asks 0x8600FF01 1 2 3) uid_answer
    ∷ case (guest_state false 2) [] (asks 0x8600FF01 1 2 3) (returns_error 1)
    ∷ case (guest_state false 3) [] (asks 0x8600FF01 1 2 3) uid_answer
    -- "R1 to R3 zero, else IP", "else NS"
    ∷ case plain [] (asks 0xC6000002 0 0 0) info_answer
    ∷ case plain [] (asks 0xC6000002 1 0 0) (returns_error 3)
    ∷ case plain [] (asks 0xC6000002 0 1 0) (returns_error 3)
    ∷ case plain [] (asks 0xC6000002 0 0 (2 ^ 32)) (returns_error 3)
    ∷ case plain [] (asks 0xC6000005 0 0 0) info_answer
    ∷ case plain [] (asks 0xC6000005 (2 ^ 32) 0 0) (returns_error 1)
    ∷ case plain [] (asks 0xC6000005 0 1 0) (returns_error 1)
    ∷ case plain [] (asks 0xC6000005 0 0 1) (returns_error 1)
    ∷ []

-- enroll: "0; twice is also 0", and only the one flag changes
abbrev pub enroll_cases : List (Case Numbers)
enroll_cases =
    case plain [] (asks 0xC6000006 1 2 3) (returns_done 0)
    ∷ case enrolled [] (asks 0xC6000006 1 2 3) (returns_done 0)
    ∷ case plain (asks 0xC6000006 0 0 0 ∷ []) (RegisterRead 3 0) (verdict_with 0 5)
    ∷ case plain (asks 0xC6000006 0 0 0 ∷ []) (RegisterRead 3 1) (verdict_with 0 6)
    ∷ case (guest_state false 7) (asks 0xC6000006 0 0 0 ∷ []) (RegisterRead 3 2) (verdict_with 0 7)
    ∷ case plain (asks 0xC6000006 0 0 0 ∷ []) (asks 0xC6000008 0x3000 0 0) (returns_done 0)
    ∷ []

-- share and unshare
abbrev pub share_cases : List (Case Numbers)
share_cases =
    -- share of a granule; of several, up to the row's end, up to a damaged one; "Count 0 means 1"; the greatest count
    case plain [] (asks 0xC6000003 0 1 0) (returns_done 1)
    ∷ case plain [] (asks 0xC6000003 0x7000 2 0) (returns_done 1)
    ∷ case plain [] (asks 0xC6000003 0x4000 4 0) (returns_done 2)
    ∷ case plain [] (asks 0xC6000003 0x4000 1 0) (returns_done 1)
    ∷ case plain [] (asks 0xC6000003 0x4000 0 0) (returns_done 1)
    ∷ case plain [] (asks 0xC6000003 0x4000 (2 ^ 64 - 1) 0) (returns_done 2)
    -- the upper half of R0; which frames are open then
    ∷ case plain [] (asks 0xFFFFFFFFC6000003 0x4000 2 0) (returns_done 2)
    ∷ case plain (asks 0xC6000003 0x4000 2 0 ∷ []) (Access 5) (verdict_with 0 1)
    ∷ case plain (asks 0xC6000003 0x4000 1 0 ∷ []) (Access 5) (verdict_with 0 0)
    ∷ case plain (asks 0xC6000003 0x4000 2 0 ∷ []) (asks 0xC6000004 0x4000 2 0) (returns_done 2)
    ∷ case plain [] (asks 0xC6000003 0 1 1) (returns_error 3)
    ∷ case plain [] (asks 0xC6000003 0 1 (2 ^ 32)) (returns_error 3)
    -- unshare
    ∷ case plain [] (asks 0xC6000004 0x1000 1 0) (returns_done 1)
    ∷ case plain [] (asks 0xC6000004 0x1000 0 0) (returns_done 1)
    ∷ case plain [] (asks 0xC6000004 0x1000 2 0) (returns_done 1)
    ∷ case plain (asks 0xC6000004 0x1000 1 0 ∷ []) (Access 1) (verdict_with 0 0)
    ∷ case plain [] (asks 0xC6000004 0x1000 1 1) (returns_error 3)
    ∷ case plain [] (asks 0xC6000004 0x1000 1 (2 ^ 32)) (returns_error 3)
    ∷ case plain [] (asks 0xC6000003 0x6000 2 0) is_damage
    ∷ case plain [] (asks 0xC6000004 0x6000 2 0) is_damage
    ∷ []
    -- shared, vacant, guarded, beyond the row, by far, no base, no base of a damaged granule
    ++ (each plain 0xC6000003 1 (returns_error 3) (0x1000 ∷ 0x2000 ∷ 0x3000 ∷ 0x8000 ∷ 0x100004000 ∷ 0x4001 ∷ 0x4800 ∷ 0x6001 ∷ [])
    -- private, vacant, guarded, and so on
    ++ each plain 0xC6000004 1 (returns_error 3) (0 ∷ 0x2000 ∷ 0x3000 ∷ 0x8000 ∷ 0x100001000 ∷ 0x1001 ∷ 0x1800 ∷ 0x6001 ∷ []))

-- guard map, guard unmap and their ranges
abbrev pub guard_cases : List (Case Numbers)
guard_cases =
    case enrolled [] (asks 0xC6000007 0x2000 7 9) (returns_done 0)
    ∷ case enrolled (asks 0xC6000007 0x2000 0 0 ∷ []) (Abort 3 0x2000) (verdict_with 11 0x2000)
    ∷ case enrolled [] (asks 0xC6000008 0x3000 7 9) (returns_done 0)
    ∷ case enrolled (asks 0xC6000008 0x3000 0 0 ∷ []) (Abort 3 0x3000) (verdict_with 12 0)
    ∷ case enrolled [] (asks 0xC600000A 0x2000 1 9) (returns_done 1)
    ∷ case enrolled [] (asks 0xC600000A 0x2000 3 9) (returns_done 1)
    ∷ case enrolled (asks 0xC600000A 0x2000 1 0 ∷ []) (Abort 3 0x2000) (verdict_with 11 0x2000)
    ∷ case enrolled [] (asks 0xC600000B 0x3000 1 9) (returns_done 1)
    ∷ case enrolled [] (asks 0xC600000B 0x3000 3 9) (returns_done 1)
    ∷ case enrolled (asks 0xC600000B 0x3000 1 0 ∷ []) (Abort 3 0x3000) (verdict_with 12 0)
    -- one granule, and not the next
    ∷ case wide (asks 0xC6000007 0 2 0 ∷ []) (Abort 3 0x1000) (verdict_with 12 0)
    ∷ case wide (asks 0xC600000A 0 2 0 ∷ asks 0xC6000008 0 2 0 ∷ []) (Abort 3 0x1000) (verdict_with 11 0x1000)
    -- "a range guard call with count 0 answers NS"
    ∷ case enrolled [] (asks 0xC600000A 0x2000 0 0) (returns_error 1)
    ∷ case enrolled [] (asks 0xC600000B 0x3000 0 0) (returns_error 1)
    -- "each stops after 64 granules"
    ∷ case wide [] (asks 0xC600000A 0 65 0) (returns_done 64)
    ∷ case wide (asks 0xC600000A 0 65 0 ∷ []) (asks 0xC600000A 0x40000 1 0) (returns_done 1)
    -- damaged
    ∷ case enrolled [] (asks 0xC6000007 0x6000 1 0) is_damage
    ∷ case enrolled [] (asks 0xC6000008 0x6000 1 0) is_damage
    ∷ case enrolled [] (asks 0xC600000A 0x6000 2 0) is_damage
    ∷ case enrolled [] (asks 0xC600000B 0x6000 2 0) is_damage
    ∷ []
    -- not enrolled: also where the granule is damaged
    ++ (each plain 0xC6000007 1 (returns_error 1) (0x2000 ∷ 0x6000 ∷ [])
    ++ (each plain 0xC6000008 1 (returns_error 1) (0x3000 ∷ 0x6000 ∷ [])
    ++ (each plain 0xC600000A 1 (returns_error 1) (0x2000 ∷ 0x6000 ∷ [])
    ++ (each plain 0xC600000B 1 (returns_error 1) (0x3000 ∷ 0x6000 ∷ [])
    -- private, shared, guarded or vacant, beyond the row, by far, no base, no base of a damaged granule
    ++ (each enrolled 0xC6000007 1 (returns_error 1) (0 ∷ 0x1000 ∷ 0x3000 ∷ 0x8000 ∷ 0x100002000 ∷ 0x2001 ∷ 0x2800 ∷ 0x6001 ∷ [])
    ++ (each enrolled 0xC6000008 1 (returns_error 1) (0 ∷ 0x1000 ∷ 0x2000 ∷ 0x8000 ∷ 0x100003000 ∷ 0x3001 ∷ 0x3800 ∷ 0x6001 ∷ [])
    ++ (each enrolled 0xC600000A 1 (returns_error 1) (0 ∷ 0x1000 ∷ 0x3000 ∷ 0x8000 ∷ 0x100002000 ∷ 0x2001 ∷ 0x2800 ∷ 0x6001 ∷ [])
    ++ each enrolled 0xC600000B 1 (returns_error 1) (0 ∷ 0x1000 ∷ 0x2000 ∷ 0x8000 ∷ 0x100003000 ∷ 0x3001 ∷ 0x3800 ∷ 0x6001 ∷ []))))))))

-- relinquish: "leaves it vacant and its frame waiting"
abbrev pub relinquish_cases : List (Case Numbers)
relinquish_cases =
    case plain [] (asks 0xC6000009 0 0 0) (returns_done 0)
    ∷ case plain (asks 0xC6000009 0 0 0 ∷ []) (Abort 3 0) (verdict_with 11 0)
    ∷ case plain (asks 0xC6000009 0 0 0 ∷ []) (Cleared 0) (verdict_with 0 0)
    ∷ case plain (asks 0xC6000009 0 0 0 ∷ Cleared 0 ∷ []) (Donate 3 0 0) (verdict_with 0 0)
    ∷ case plain (asks 0xC6000009 0x4000 0 0 ∷ []) (Abort 3 0x5000) (verdict_with 13 0)
    ∷ case plain [] (asks 0xC6000009 0 1 0) (returns_error 3)
    ∷ case plain [] (asks 0xC6000009 0 (2 ^ 32) 0) (returns_error 3)
    ∷ case plain [] (asks 0xC6000009 0 0 1) (returns_error 3)
    ∷ case plain [] (asks 0xC6000009 0 0 (2 ^ 32)) (returns_error 3)
    ∷ case plain [] (asks 0xC6000009 0x6000 0 0) is_damage
    ∷ case plain [] (asks 0xC6000009 0x6000 1 0) (returns_error 3)
    ∷ []
    -- shared, vacant, guarded, beyond the row, by far, no base, no base of a damaged granule
    ++ each plain 0xC6000009 0 (returns_error 3) (0x1000 ∷ 0x2000 ∷ 0x3000 ∷ 0x8000 ∷ 0x100004000 ∷ 0x4001 ∷ 0x4800 ∷ 0x6001 ∷ [])

-- "Anything else answers NS."
abbrev pub unknown_cases : List (Case Numbers)
unknown_cases = unsupported (guest_state true 1) other_numbers

-- verdicts 1 to 3, in this order and before all else: a length and a slot, a slot and a guest never run, a guest never run and a register, or
-- a damaged granule. A record that isn't live counts as dead, and so do slots above 7 whose low bits are those of a guest.
abbrev pub caller_cases : List (Case Numbers)
caller_cases =
    case cut [] (Hypercall 2 (registers 0 0 0 0)) (verdict_with 1 0)
    ∷ case cut [] (asks 0xC6000003 1 0 0) (verdict_with 1 0)
    ∷ case cut [] (Abort 2 0) (verdict_with 1 0)
    ∷ case no_guest_frames [] (asks 0xC6000002 0 0 0) (verdict_with 1 0)
    ∷ case no_guest_frames [] (Abort 3 0x2000) (verdict_with 1 0)
    ∷ case plain [] (Hypercall 1 (registers 0xC6000003 1 0 0)) (verdict_with 2 0)
    ∷ case plain [] (Hypercall 8 (registers 0xC6000003 1 0 0)) (verdict_with 2 0)
    ∷ case plain [] (Hypercall 4 (registers 0x86000000 0 0 0)) (verdict_with 2 0)
    ∷ case plain [] (Hypercall 259 (registers 0xC6000002 0 0 0)) (verdict_with 2 0)
    ∷ case plain [] (Hypercall 0x100000003 (registers 0xC6000002 0 0 0)) (verdict_with 2 0)
    ∷ case plain [] (Abort 1 0) (verdict_with 2 0)
    ∷ case plain [] (Abort 4 0) (verdict_with 2 0)
    ∷ case plain [] (Abort 11 0x6000) (verdict_with 2 0)
    ∷ case plain [] (Abort 259 0) (verdict_with 2 0)
    ∷ case plain [] (Abort 0x100000003 0) (verdict_with 2 0)
    ∷ case plain [] (Hypercall 2 (registers 0xC6000003 1 0 0)) (verdict_with 3 0)
    ∷ case plain [] (Hypercall 2 (registers 0xC6000003 0 1 0)) (verdict_with 3 0)
    ∷ case plain [] (Hypercall 2 (registers 0 0 0 0)) (verdict_with 3 0)
    ∷ case plain [] (Abort 2 0) (verdict_with 3 0)
    ∷ case plain [] (Abort 2 0x1000) (verdict_with 3 0)
    ∷ []

-- aborts of slot 3 at each address of a list, with an answer for each
abbrev pub aborts : State → (ℕ → Numbers) → List ℕ → List (Case Numbers)
aborts s answer ipas = map (λ a. case s [] (Abort 3 a) (answer a)) ipas

abbrev pub exits : ℕ → Numbers
exits a = verdict_with 11 a

abbrev pub resumes : ℕ → Numbers
resumes a = verdict_with 13 0

abbrev pub excepts : ℕ → Numbers
excepts a = verdict_with 12 0

-- "Abort at any IPA, aligned or not": private, shared; guarded; vacant; beyond the row; damaged
abbrev pub abort_cases : List (Case Numbers)
abort_cases =
    aborts plain resumes (0 ∷ 0xFFF ∷ 0x1000 ∷ 0x1ABC ∷ [])
    ++ (aborts enrolled resumes (0 ∷ 0xFFF ∷ 0x1000 ∷ 0x1ABC ∷ [])
    ++ (aborts plain exits (0x3000 ∷ 0x3001 ∷ [])
    ++ (aborts enrolled exits (0x3000 ∷ 0x3FFF ∷ [])
    ++ (aborts plain exits (0x2000 ∷ 0x2ABC ∷ 0x8000 ∷ 0x8001 ∷ 0x100000000 ∷ 0x100006000 ∷ (2 ^ 64 - 1) ∷ [])
    ++ (aborts enrolled excepts (0x2000 ∷ 0x2ABC ∷ 0x8000 ∷ 0x8001 ∷ 0x100000000 ∷ 0x100003000 ∷ (2 ^ 64 - 1) ∷ [])
    ++ (aborts plain (λ a. is_damage) (0x6000 ∷ 0x6001 ∷ [])
    ++ aborts enrolled (λ a. is_damage) (0x6000 ∷ 0x6FFF ∷ [])))))))

abbrev pub guest_cases : List (Case Numbers)
guest_cases = tell_cases ++ (enroll_cases ++ (share_cases ++ (guard_cases ++ (relinquish_cases ++ (unknown_cases ++ (caller_cases ++ abort_cases))))))

-- a call that leaves these frame words, and this row of slot 3
abbrev pub left_of : Bool → Bool → Call → List ℕ → List ℕ → Case State
left_of k e c fs row = leaves (state_of k e 7) (c ∷ []) (state fs (map_with row) (callers_of k e 7))

abbrev pub left_after : Bool → Call → List ℕ → List ℕ → Case State
left_after = left_of false

-- what calls leave: both tables and the records
abbrev pub guest_left : List (Case State)
guest_left =
    leaves (guest_state false 7) (asks 0xC6000006 0 0 0 ∷ []) (guest_state true 7)
    -- share of two, unshare
    ∷ left_after false (asks 0xC6000003 0x4000 4 0)
    (0x04000000 ∷ 0x04010001 ∷ 0 ∷ 0xFF000000 ∷ 0x04010004 ∷ 0x04010005 ∷ 0 ∷ 0x04000007 ∷ [])
    (0x40000000 ∷ 0x80000001 ∷ 0 ∷ 0xC0000000 ∷ 0x80000004 ∷ 0x80000005 ∷ 0x40000002 ∷ 0x40000007 ∷ [])
    ∷ left_after false (asks 0xC6000004 0x1000 4 0)
    (0x04000000 ∷ 0x04000001 ∷ 0 ∷ 0xFF000000 ∷ 0x04000004 ∷ 0x04000005 ∷ 0 ∷ 0x04000007 ∷ [])
    (0x40000000 ∷ 0x40000001 ∷ 0 ∷ 0xC0000000 ∷ 0x40000004 ∷ 0x40000005 ∷ 0x40000002 ∷ 0x40000007 ∷ [])
    -- guard map, guard unmap, and their ranges
    ∷ left_after true (asks 0xC6000007 0x2000 4 0) guest_frames
    (0x40000000 ∷ 0x80000001 ∷ 0xC0000000 ∷ 0xC0000000 ∷ 0x40000004 ∷ 0x40000005 ∷ 0x40000002 ∷ 0x40000007 ∷ [])
    ∷ left_after true (asks 0xC6000008 0x3000 4 0) guest_frames
    (0x40000000 ∷ 0x80000001 ∷ 0 ∷ 0 ∷ 0x40000004 ∷ 0x40000005 ∷ 0x40000002 ∷ 0x40000007 ∷ [])
    ∷ left_after true (asks 0xC600000A 0x2000 4 0) guest_frames
    (0x40000000 ∷ 0x80000001 ∷ 0xC0000000 ∷ 0xC0000000 ∷ 0x40000004 ∷ 0x40000005 ∷ 0x40000002 ∷ 0x40000007 ∷ [])
    ∷ left_after true (asks 0xC600000B 0x3000 4 0) guest_frames
    (0x40000000 ∷ 0x80000001 ∷ 0 ∷ 0 ∷ 0x40000004 ∷ 0x40000005 ∷ 0x40000002 ∷ 0x40000007 ∷ [])
    -- relinquish
    ∷ left_after false (asks 0xC6000009 0 0 0)
    (0xFF000000 ∷ 0x04010001 ∷ 0 ∷ 0xFF000000 ∷ 0x04000004 ∷ 0x04000005 ∷ 0 ∷ 0x04000007 ∷ [])
    (0 ∷ 0x80000001 ∷ 0 ∷ 0xC0000000 ∷ 0x40000004 ∷ 0x40000005 ∷ 0x40000002 ∷ 0x40000007 ∷ [])
    ∷ leaves (guest_state true 7) (Abort 3 0x2000 ∷ Abort 3 0x3000 ∷ asks 0x86000000 0 0 0 ∷ asks 0xC6000002 0 0 0 ∷ []) (guest_state true 7)
    ∷ []
