-- Document 01, "Host calls" and "Verdicts": cases of every host call and every verdict that it can have, with all five numbers of each answer;
-- what the calls that are done leave; and the rows that show hands back. For verdicts that follow each other in the order of a call there is a
-- case in which both tests fail.
use Rattle.std.specs.Prelude.{Bool, true, false, List, [], ◌∷◌, ◌++◌, map, ℕ, ◌-◌, ◌^◌, replicate}
use Rattle.runs.specs.Worked.{Case}
use Rattle.records.specs.Monitor.{with_flags, with_bitmaps, zero_guest, new_guest, mark_run, enroll, with_guest}
use Rattle.answers.specs.Answer.{verdict_with, numbers_of}
use Rattle.commands.specs.State.{State, state}
use Rattle.records.specs.declared.guest.Guest.{Guest}
use Rattle.records.specs.declared.monitor.Monitor.{Monitor}
use Rattle.answers.specs.declared.answer.Numbers.{Numbers}
use Rattle.calls.specs.Step.{fresh_state}
use Rattle.calls.specs.declared.call.Call.TheVariants.{Create, Donate, Run, Remove, Cleared, Access, Show, RegisterRead, RegisterWrite}
use Rattle.host_guests.specs.Calls.{show_of}
use Rattle.claims.specs.Case.{case, leaves}

-- a record that is not live and not zero
abbrev pub dead_non_zero : Guest
dead_non_zero = with_flags false false true true (with_bitmaps 1 2 7 zero_guest)

-- slot 0 was run, slot 1 was not, the others are dead
abbrev pub records : Monitor
records = record { guests = mark_run (new_guest false) ∷ (new_guest false) ∷ dead_non_zero ∷ replicate 5 zero_guest }

abbrev pub all_live : Monitor
all_live = record { guests = replicate 8 (new_guest false) }

-- four frames: private to granule 0 of slot 0; shared, of its granule 1; the host's; waiting
abbrev pub frames : List ℕ
frames = 0x01000000 ∷ 0x01010001 ∷ 0 ∷ 0xFF000000 ∷ []

-- eight rows of two granules; granule 0 of slot 1 is guarded
abbrev pub rows : List ℕ
rows = 0x40000000 ∷ 0x80000001 ∷ 0xC0000000 ∷ replicate 13 0

abbrev pub sound : State
sound = state frames rows records

-- granule 0 of slot 0 names frame 2, so it and frame 0 are damaged; slot 2 is dead and its row is not vacant
abbrev pub damaged : State
damaged = state frames (0x40000002 ∷ 0x80000001 ∷ 0 ∷ 0 ∷ 0xC0000000 ∷ replicate 11 0) records

-- a frame table of no words; a map table of 15 words
abbrev pub no_frames : State
no_frames = state [] rows records

abbrev pub short_map : State
short_map = state frames (replicate 15 0) records

-- a frame table of no words, and slot 2, dead, with a row that is not vacant
abbrev pub damaged_no_frames : State
damaged_no_frames = state [] damaged.map records

-- slot 2 is dead, and its granule 1 names a frame that does not name it back
abbrev pub second_damaged : State
second_damaged = state frames (0x40000000 ∷ 0x80000001 ∷ 0xC0000000 ∷ 0 ∷ 0 ∷ 0x40000002 ∷ replicate 10 0) records

-- live guests with bitmaps of their own, as they can be lent: slot 0 was run, slot 1 was not
abbrev pub with_own_bitmaps : Bool → Guest
with_own_bitmaps r = with_flags true false r false (with_bitmaps 5 6 7 zero_guest)

abbrev pub lent_with : Guest → Guest → State
lent_with a b = state frames rows (record { guests = a ∷ b ∷ dead_non_zero ∷ replicate 5 zero_guest })

abbrev pub lent_bitmaps : State
lent_bitmaps = lent_with (with_own_bitmaps true) (with_own_bitmaps false)

abbrev pub host_done_with : ℕ → Numbers
host_done_with a = verdict_with 0 a

abbrev pub host_refused : ℕ → Numbers
host_refused q = verdict_with q 0

-- verdict 9 with −n
abbrev pub register_refused : ℕ → Numbers
register_refused n = verdict_with 9 (2 ^ 64 - n)

-- create, donate
abbrev pub creations : List (Case Numbers)
creations =
    case sound [] (Create false) (host_done_with 2)
    -- the dead record's bitmap is not kept
    ∷ case sound (Create false ∷ []) (RegisterRead 2 2) (host_done_with 1)
    ∷ case sound (Create false ∷ []) (Create false) (host_done_with 3)
    -- the first word of the row, and the second, is not vacant
    ∷ case damaged [] (Create false) (host_refused 6)
    ∷ case second_damaged [] (Create false) (host_refused 6)
    ∷ case damaged_no_frames [] (Create false) (host_refused 1)
    -- eight from fresh tables; slot 7 alone is dead; none is
    ∷ case (fresh_state 1 1) (replicate 7 (Create false)) (Create false) (host_done_with 7)
    ∷ case (fresh_state 1 1) (replicate 8 (Create false)) (Create false) (host_refused 7)
    ∷ case (state frames rows (with_guest all_live 7 zero_guest)) [] (Create false) (host_done_with 7)
    ∷ case (state frames rows all_live) [] (Create false) (host_refused 7)
    ∷ case (state [] rows all_live) [] (Create false) (host_refused 1)
    ∷ case no_frames [] (Create false) (host_refused 1)
    ∷ case sound [] (Donate 1 2 1) (host_done_with 0)
    ∷ case sound (Donate 1 2 1 ∷ []) (Access 2) (host_done_with 0)
    ∷ case no_frames [] (Donate 1 2 1) (host_refused 1)
    ∷ case short_map [] (Donate 8 4 2) (host_refused 1)
    ∷ case sound [] (Donate 8 4 2) (host_refused 2)
    ∷ case sound [] (Donate 2 2 1) (host_refused 2)
    ∷ case sound [] (Donate 2 4 1) (host_refused 2)
    -- frame, granule not in range; and the granule, the frame damaged
    ∷ case sound [] (Donate 1 4 1) (host_refused 4)
    ∷ case sound [] (Donate 1 2 2) (host_refused 4)
    ∷ case damaged [] (Donate 0 4 0) (host_refused 4)
    ∷ case damaged [] (Donate 0 0 2) (host_refused 4)
    -- frame private, waiting, shared; granule shared, guarded, private
    ∷ case sound [] (Donate 1 0 1) (host_refused 5)
    ∷ case sound [] (Donate 0 2 1) (host_refused 5)
    ∷ case sound [] (Donate 1 3 1) (host_refused 5)
    ∷ case sound [] (Donate 1 1 1) (host_refused 5)
    ∷ case sound [] (Donate 1 2 0) (host_refused 5)
    ∷ case sound [] (Donate 0 2 0) (host_refused 5)
    -- granule damaged and frame waiting; frame damaged and granule not vacant
    ∷ case damaged [] (Donate 0 3 0) (host_refused 6)
    ∷ case damaged [] (Donate 0 0 1) (host_refused 6)
    -- granule damaged alone; frame damaged alone
    ∷ case damaged [] (Donate 0 2 0) (host_refused 6)
    ∷ case damaged [] (Donate 1 0 0) (host_refused 6)
    ∷ []

-- run, remove
abbrev pub runs : List (Case Numbers)
runs =
    case sound [] (Run 1) (host_done_with 0)
    ∷ case sound [] (Run 0) (host_done_with 0)
    ∷ case sound [] (Run 2) (host_refused 2)
    ∷ case sound [] (Run 8) (host_refused 2)
    ∷ case no_frames [] (Run 1) (host_done_with 0)
    -- two frames; a guarded granule is none
    ∷ case sound [] (Remove 0) (host_done_with 2)
    ∷ case sound [] (Remove 1) (host_done_with 0)
    ∷ case sound (Remove 0 ∷ []) (Access 1) (host_done_with 0)
    ∷ case sound (Remove 0 ∷ []) (Create false) (host_done_with 0)
    ∷ case sound (Remove 0 ∷ []) (Remove 0) (host_refused 2)
    -- the first granule of the row is damaged, the second
    ∷ case damaged [] (Remove 0) (host_refused 6)
    ∷ case (state frames (0x40000000 ∷ 0x40000002 ∷ replicate 14 0) records) [] (Remove 0) (host_refused 6)
    -- no guest, and a row that is damaged; no such slot
    ∷ case second_damaged [] (Remove 2) (host_refused 2)
    ∷ case sound [] (Remove 8) (host_refused 2)
    ∷ case short_map [] (Remove 0) (host_refused 1)
    ∷ case short_map [] (Remove 2) (host_refused 1)
    ∷ case damaged_no_frames [] (Remove 0) (host_refused 1)
    ∷ []

-- cleared, access, show
abbrev pub looks : List (Case Numbers)
looks =
    case sound [] (Cleared 3) (host_done_with 0)
    ∷ case sound (Cleared 3 ∷ []) (Access 3) (host_done_with 1)
    ∷ case sound (Cleared 3 ∷ []) (Cleared 3) (host_refused 8)
    ∷ case sound [] (Cleared 0) (host_refused 8)
    ∷ case damaged [] (Cleared 0) (host_refused 6)
    ∷ case damaged [] (Cleared 4) (host_refused 4)
    ∷ case short_map [] (Cleared 4) (host_refused 1)
    ∷ case sound [] (Access 0) (host_done_with 0)
    ∷ case sound [] (Access 1) (host_done_with 1)
    ∷ case sound [] (Access 2) (host_done_with 1)
    ∷ case sound [] (Access 3) (host_done_with 0)
    ∷ case damaged [] (Access 0) (host_refused 6)
    -- a third word that names it does not count
    ∷ case damaged [] (Access 2) (host_done_with 1)
    ∷ case sound [] (Access (2 ^ 64 - 1)) (host_refused 4)
    ∷ case short_map [] (Access 2) (host_refused 1)
    ∷ case short_map [] (Access 4) (host_refused 1)
    -- a guest that was run, and one that was not
    ∷ case sound [] (Show 0) (host_done_with 0)
    ∷ case sound [] (Show 1) (host_done_with 0)
    ∷ case damaged [] (Show 0) (host_done_with 0)
    ∷ case no_frames [] (Show 0) (host_done_with 0)
    ∷ case sound [] (Show 2) (host_refused 2)
    ∷ case sound [] (Show 8) (host_refused 2)
    ∷ case short_map [] (Show 0) (host_refused 1)
    ∷ case short_map [] (Show 2) (host_refused 1)
    ∷ []

-- firmware registers
abbrev pub register_cases : List (Case Numbers)
register_cases =
    case no_frames [] (RegisterRead 1 2) (host_done_with 1)
    ∷ case sound [] (RegisterRead 1 0) (host_done_with 0)
    ∷ case sound [] (RegisterRead 1 3) (register_refused 2)
    ∷ case sound [] (RegisterRead 1 (2 ^ 32)) (register_refused 2)
    ∷ case sound [] (RegisterRead 2 3) (host_refused 2)
    ∷ case sound [] (RegisterRead 8 0) (host_refused 2)
    -- each of three; after run too
    ∷ case lent_bitmaps [] (RegisterRead 1 0) (host_done_with 5)
    ∷ case lent_bitmaps [] (RegisterRead 1 1) (host_done_with 6)
    ∷ case lent_bitmaps [] (RegisterRead 1 2) (host_done_with 7)
    ∷ case lent_bitmaps [] (RegisterRead 0 0) (host_done_with 5)
    ∷ case lent_bitmaps [] (RegisterRead 0 1) (host_done_with 6)
    ∷ case lent_bitmaps [] (RegisterRead 0 2) (host_done_with 7)
    ∷ case lent_bitmaps [] (RegisterWrite 1 0 0) (host_done_with 0)
    ∷ case lent_bitmaps [] (RegisterWrite 1 1 0) (host_done_with 0)
    ∷ case lent_bitmaps [] (RegisterWrite 1 2 1) (host_done_with 0)
    ∷ case sound [] (RegisterWrite 1 2 0) (host_done_with 0)
    ∷ case sound (RegisterWrite 1 2 0 ∷ []) (RegisterRead 1 2) (host_done_with 0)
    ∷ case sound [] (RegisterWrite 1 2 2) (register_refused 22)
    ∷ case sound [] (RegisterWrite 1 0 1) (register_refused 22)
    ∷ case sound [] (RegisterWrite 1 1 1) (register_refused 22)
    ∷ case sound [] (RegisterWrite 1 2 (2 ^ 32)) (register_refused 22)
    ∷ case sound [] (RegisterWrite 1 3 9) (register_refused 2)
    -- after run: another register, a bad value, the same value
    ∷ case sound [] (RegisterWrite 0 3 1) (register_refused 2)
    ∷ case sound [] (RegisterWrite 0 1 1) (register_refused 22)
    ∷ case sound [] (RegisterWrite 0 2 1) (register_refused 16)
    ∷ case sound [] (RegisterWrite 0 0 0) (register_refused 16)
    ∷ case sound [] (RegisterWrite 2 3 1) (host_refused 2)
    ∷ case sound [] (RegisterWrite 8 0 0) (host_refused 2)
    ∷ []

-- slots above 7 whose low bits are those of a guest; frames, a granule and a value whose low half is small
abbrev pub wide_cases : List (Case Numbers)
wide_cases =
    map (λ c. case sound [] c (host_refused 2))
    (Donate 257 2 1 ∷ Donate 0x100000001 2 1 ∷ Run 257 ∷ Run 0x100000001 ∷ Remove 257 ∷ Remove 0x100000001 ∷ Show 257 ∷ Show 0x100000001
    ∷ RegisterRead 257 2 ∷ RegisterRead 0x100000001 2 ∷ RegisterWrite 257 2 1 ∷ RegisterWrite 0x100000001 2 1 ∷ [])
    ++ (map (λ c. case sound [] c (host_refused 4))
    (Donate 1 0x100000002 1 ∷ Donate 1 2 0x100000001 ∷ Cleared 0x100000003 ∷ Access 0x100000002 ∷ [])
    ++ (case sound [] (RegisterWrite 1 0 (2 ^ 32)) (register_refused 22) ∷ []))

abbrev pub host_cases : List (Case Numbers)
host_cases = creations ++ (runs ++ (looks ++ (register_cases ++ wide_cases)))

-- what calls leave: both tables and the records
abbrev pub host_left : List (Case State)
host_left =
    leaves sound (Create false ∷ []) (state frames rows (record { guests = mark_run (new_guest false) ∷ (new_guest false) ∷ (new_guest false) ∷ replicate 5 zero_guest }))
    ∷ leaves sound (Donate 1 2 1 ∷ [])
    (state (0x01000000 ∷ 0x01010001 ∷ 0x02000001 ∷ 0xFF000000 ∷ []) (0x40000000 ∷ 0x80000001 ∷ 0xC0000000 ∷ 0x40000002 ∷ replicate 12 0) records)
    ∷ leaves sound (Remove 0 ∷ [])
    (state (0xFF000000 ∷ 0xFF000000 ∷ 0 ∷ 0xFF000000 ∷ []) (0 ∷ 0 ∷ 0xC0000000 ∷ replicate 13 0) (record { guests = zero_guest ∷ (new_guest false) ∷ dead_non_zero ∷ replicate 5 zero_guest }))
    ∷ leaves sound (Remove 1 ∷ [])
    (state frames (0x40000000 ∷ 0x80000001 ∷ replicate 14 0) (record { guests = mark_run (new_guest false) ∷ zero_guest ∷ dead_non_zero ∷ replicate 5 zero_guest }))
    ∷ leaves sound (Cleared 3 ∷ []) (state (0x01000000 ∷ 0x01010001 ∷ 0 ∷ 0 ∷ []) rows records)
    ∷ leaves sound (Access 0 ∷ Show 1 ∷ RegisterRead 1 2 ∷ []) sound
    ∷ leaves lent_bitmaps (Run 1 ∷ []) (lent_with (with_own_bitmaps true) (with_own_bitmaps true))
    ∷ leaves lent_bitmaps (Run 0 ∷ []) lent_bitmaps
    ∷ leaves (lent_with (new_guest false) (enroll (new_guest false))) (Run 1 ∷ []) (lent_with (new_guest false) (with_flags true false true true (new_guest false)))
    ∷ leaves lent_bitmaps (RegisterWrite 1 0 0 ∷ []) (lent_with (with_own_bitmaps true) (with_flags true false false false (with_bitmaps 0 6 7 zero_guest)))
    ∷ leaves lent_bitmaps (RegisterWrite 1 1 0 ∷ []) (lent_with (with_own_bitmaps true) (with_flags true false false false (with_bitmaps 5 0 7 zero_guest)))
    ∷ leaves lent_bitmaps (RegisterWrite 1 2 1 ∷ []) (lent_with (with_own_bitmaps true) (with_flags true false false false (with_bitmaps 5 6 1 zero_guest)))
    ∷ []

-- a slot, and what show answers and hands back for it
abbrev pub shown : State → ℕ → Numbers → List ℕ → Case (Numbers × List ℕ)
shown s v n row = let r = show_of v s.monitor s.map in record { found = (numbers_of r.answer, r.part); expected = (n, row) }

-- two guests; a damaged row; no guest; no such slot; a bad length
abbrev pub rows_shown : List (Case (Numbers × List ℕ))
rows_shown =
    shown sound 0 (host_done_with 0) (0x40000000 ∷ 0x80000001 ∷ [])
    ∷ shown sound 1 (host_done_with 0) (0xC0000000 ∷ 0 ∷ [])
    ∷ shown damaged 0 (host_done_with 0) (0x40000002 ∷ 0x80000001 ∷ [])
    ∷ shown sound 2 (host_refused 2) []
    ∷ shown sound 8 (host_refused 2) []
    ∷ shown short_map 0 (host_refused 1) []
    ∷ []
