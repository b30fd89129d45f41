-- Worked words of records, closed by computing them.
use mathlib.Core.Path.{◌≡◌, refl}
use mathlib.Core.Bool.{Bool, true, false}
use mathlib.Core.List.{List, [], ◌∷◌, ◌++◌, map}
use Prim.Native.Nat.{ℕ, ◌^◌}
use lib.ListN.{replicate}
use Rattle.records.specs.Monitor.{words_of, guest_in, zero_guest, with_guest}
use Rattle.records.specs.declared.guest.Guest.{Guest}
use Rattle.answers.specs.Answer.{numbers}
use Rattle.record_words.specs.Words.{guest_at, monitor_in, words_after, answer_words}

-- a record with these flags, and with bitmaps that differ
abbrev flagged : Bool → Bool → Bool → Bool → Guest
flagged l k r e = record { live = l; legacy = k; run = r; enrolled = e; std = 5; std_hyp = 6; vendor_hyp = 7 }

-- its words with these as flag words
abbrev words : ℕ → ℕ → ℕ → ℕ → List ℕ
words l k r e = l ∷ k ∷ r ∷ e ∷ 5 ∷ 6 ∷ 7 ∷ []

-- each flag alone, all and none
pub records_written :
    map words_of
    (flagged true false false false ∷ flagged false true false false ∷ flagged false false true false ∷ flagged false false false true
    ∷ flagged true true true true ∷ flagged false false false false ∷ [])
    ≡ words 1 0 0 0 ∷ words 0 1 0 0 ∷ words 0 0 1 0 ∷ words 0 0 0 1 ∷ words 1 1 1 1 ∷ words 0 0 0 0 ∷ []
records_written = refl

-- a flag word other than 0 counts as set
pub records_read :
    map guest_in
    (words 1 0 0 0 ∷ words 0 1 0 0 ∷ words 0 0 1 0 ∷ words 0 0 0 1 ∷ words 2 0 0 0 ∷ words 0 2 0 0 ∷ words 0 0 2 0 ∷ words 0 0 0 (2 ^ 63) ∷ [])
    ≡ flagged true false false false ∷ flagged false true false false ∷ flagged false false true false ∷ flagged false false false true
    ∷ flagged true false false false ∷ flagged false true false false ∷ flagged false false true false ∷ flagged false false false true ∷ []
records_read = refl

-- 56 words: a record with flag words above 1 in slot 1, and one in slot 7
abbrev pub lent_records : List ℕ
lent_records = replicate 7 0 ++ (words 2 0 3 0 ++ (replicate 35 0 ++ words 0 1 0 0))

pub slots_read : guest_at lent_records 0 ∷ guest_at lent_records 1 ∷ guest_at lent_records 2 ∷ guest_at lent_records 7 ∷ []
    ≡ zero_guest ∷ flagged true false true false ∷ zero_guest ∷ flagged false true false false ∷ []
unfolding guest_at
slots_read = refl

-- a record that changed is written whole, flags as 0 or 1; the others stay word for word
pub slots_written :
    words_after lent_records (with_guest (monitor_in lent_records) 7 (flagged true true false true))
    ∷ words_after lent_records (with_guest (monitor_in lent_records) 1 (flagged true false true true))
    ∷ words_after lent_records (monitor_in lent_records)
    ∷ []
    ≡ (replicate 7 0 ++ (words 2 0 3 0 ++ (replicate 35 0 ++ words 1 1 0 1)))
    ∷ (replicate 7 0 ++ (words 1 0 1 1 ++ (replicate 35 0 ++ words 0 1 0 0)))
    ∷ lent_records
    ∷ []
unfolding words_after guest_at with_guest
slots_written = refl

pub answers_written : answer_words (numbers 1 2 3 4 5) ≡ 1 ∷ 2 ∷ 3 ∷ 4 ∷ 5 ∷ []
answers_written = refl
