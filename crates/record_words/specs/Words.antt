-- The guest records as words that a caller lends, those of slot 0 first. And an answer as five words.
use Rattle.std.specs.Prelude.{Bool, cond, List, [], ◌∷◌, ◌++◌, ℕ, zero, suc, ◌*◌, eqb, take, drop}
use Rattle.std.specs.Cmp.Lexicographic.{pointwise}
use Rattle.records.specs.Monitor.{guest_length, words_of, guest_in}
use Rattle.records.specs.declared.guest.Guest.{Guest}
use Rattle.records.specs.declared.monitor.Monitor.{Monitor}
use Rattle.answers.specs.declared.answer.Numbers.{Numbers}

-- the words from slot v's record on
abbrev pub words_from : List ℕ → ℕ → List ℕ
words_from w v = drop (guest_length * v) w

-- the record of slot v
unfoldable pub guest_at : List ℕ → ℕ → Guest
guest_at w v = guest_in (take guest_length (words_from w v))

-- the records of n slots from v on
abbrev pub guests_from : List ℕ → ℕ → ℕ → List Guest
guests_from w v zero = []
guests_from w v (suc n) = guest_at w v ∷ guests_from w (suc v) n

-- the records of all eight slots
abbrev pub monitor_in : List ℕ → Monitor
monitor_in w = record { guests = guests_from w 0 8 }

-- as many words, and place by place the same
abbrev pub same_words : List ℕ → List ℕ → Bool
same_words = pointwise eqb

-- the words of slot v's record once that is g: a record that did not change stays word for word, another is written whole, its flags as 0 or 1
abbrev pub record_after : List ℕ → ℕ → Guest → List ℕ
record_after w v g = cond (same_words (words_of (guest_at w v)) (words_of g)) (take guest_length (words_from w v)) (words_of g)

-- the words of the records of slots from v on, and what stands behind them
abbrev pub records_after : List ℕ → ℕ → List Guest → List ℕ
records_after w v [] = words_from w v
records_after w v (g ∷ gs) = record_after w v g ++ records_after w (suc v) gs

-- the words once the records are those of m
unfoldable pub words_after : List ℕ → Monitor → List ℕ
words_after w m = records_after w 0 m.guests

-- an answer's five numbers
abbrev pub answer_words : Numbers → List ℕ
answer_words n = n.verdict ∷ n.v0 ∷ n.v1 ∷ n.v2 ∷ n.v3 ∷ []
