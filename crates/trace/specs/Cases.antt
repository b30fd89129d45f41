-- Document 01, "Trace program": its example, whole and in pieces, the empty input, logs that are bad and cut short, and one at the bounds.
-- Document 02, Wish 1: one of a guest that knows no ranges.
use Rattle.std.specs.Prelude.{ℕ, List, [], ◌∷◌, ◌++◌, take, drop}
use Rattle.runs.specs.Worked.{Case}
use Rattle.trace_lines.specs.Line.{line_text}
use Rattle.trace_lines.specs.declared.lines.Line.TheVariants.{First}
use Rattle.trace.specs.Replay.{fresh_replay, replay_text, pieces_text}

-- the bytes before a record's arguments: length, version 1, kind, slot 0
abbrev pub header : ℕ → ℕ → List ℕ
header n k = 0 ∷ n ∷ 1 ∷ k ∷ 0 ∷ []

-- an argument below 2^32, of four bytes behind four of zero
abbrev pub argument : ℕ → ℕ → ℕ → ℕ → List ℕ
argument a b c d = 0 ∷ 0 ∷ 0 ∷ 0 ∷ a ∷ b ∷ c ∷ d ∷ []

-- a create of kind k, "then donate frame 3 at granule 5, run", and what follows
abbrev pub run_guest : ℕ → List ℕ → List ℕ
run_guest k rest = header 3 k ++ (header 19 2 ++ (argument 0 0 0 3 ++ (argument 0 0 0 5 ++ (header 3 3 ++ rest))))

-- share there with n in R2
abbrev pub share : ℕ → List ℕ
share n = header 35 4 ++ (argument 0xC6 0 0 3 ++ (argument 0 0 0x50 0 ++ (argument 0 0 0 n ++ argument 0 0 0 0)))

-- "Create, then donate frame 3 at granule 5, run, share one granule there"
abbrev pub example_log : List ℕ
example_log = run_guest 1 (share 1)

-- "monitor 1"
abbrev pub first_line : List ℕ
first_line = 109 ∷ 111 ∷ 110 ∷ 105 ∷ 116 ∷ 111 ∷ 114 ∷ 32 ∷ 49 ∷ 10 ∷ []

-- "0 0 0 0 0"
abbrev pub zeros : List ℕ
zeros = 48 ∷ 32 ∷ 48 ∷ 32 ∷ 48 ∷ 32 ∷ 48 ∷ 32 ∷ 48 ∷ 10 ∷ []

-- "monitor 1", "0 0 0 0 0" three times, "10 0 1 0 0", "end 4"
abbrev pub example_text : List ℕ
example_text =
    first_line
    ++ (zeros ++ (zeros ++ (zeros
    ++ ((49 ∷ 48 ∷ 32 ∷ 48 ∷ 32 ∷ 49 ∷ 32 ∷ 48 ∷ 32 ∷ 48 ∷ 10 ∷ [])
    ++ (101 ∷ 110 ∷ 100 ∷ 32 ∷ 52 ∷ 10 ∷ [])))))

-- "Empty input prints the first line and `end 0`."
abbrev pub empty_text : List ℕ
empty_text = first_line ++ (101 ∷ 110 ∷ 100 ∷ 32 ∷ 48 ∷ 10 ∷ [])

-- "monitor 1", "0 0 0 0 0", "bad", "end 1"
abbrev pub cut_text : List ℕ
cut_text = first_line ++ (zeros ++ ((98 ∷ 97 ∷ 100 ∷ 10 ∷ []) ++ (101 ∷ 110 ∷ 100 ∷ 32 ∷ 49 ∷ 10 ∷ [])))

-- a create, a record of version 2, and another create: what stands behind a bad record is not read
abbrev pub bad_log : List ℕ
bad_log = header 3 1 ++ ((0 ∷ 3 ∷ 2 ∷ 1 ∷ 0 ∷ []) ++ header 3 1)

-- "F is 256, W is 64.": create, donate frame 0 at granules 64 and 63, access of frames 256 and 255, and a read of register 3
abbrev pub bounds_log : List ℕ
bounds_log =
    header 3 1
    ++ (header 19 2 ++ (argument 0 0 0 0 ++ (argument 0 0 0 64
    ++ (header 19 2 ++ (argument 0 0 0 0 ++ (argument 0 0 0 63
    ++ (header 11 8 ++ (argument 0 0 1 0
    ++ (header 11 8 ++ (argument 0 0 0 255
    ++ (header 11 9 ++ argument 0 0 0 3)))))))))))

-- `4 0 0 0 0`
abbrev pub out_of_range : List ℕ
out_of_range = 52 ∷ 32 ∷ 48 ∷ 32 ∷ 48 ∷ 32 ∷ 48 ∷ 32 ∷ 48 ∷ 10 ∷ []

-- `0 1 0 0 0`
abbrev pub accessible : List ℕ
accessible = 48 ∷ 32 ∷ 49 ∷ 32 ∷ 48 ∷ 32 ∷ 48 ∷ 32 ∷ 48 ∷ 10 ∷ []

-- `end 6`
abbrev pub end_of_six : List ℕ
end_of_six = 101 ∷ 110 ∷ 100 ∷ 32 ∷ 54 ∷ 10 ∷ []

-- `monitor 1`, `0 0 0 0 0`, `4 0 0 0 0`, `0 0 0 0 0`, `4 0 0 0 0`, `0 1 0 0 0`, `9 18446744073709551614 0 0 0`, `end 6`
abbrev pub bounds_text : List ℕ
bounds_text =
    first_line
    ++ (zeros ++ (out_of_range ++ (zeros ++ (out_of_range
    ++ (accessible
    ++ ((57 ∷ 32 ∷ 49 ∷ 56 ∷ 52 ∷ 52 ∷ 54 ∷ 55 ∷ 52 ∷ 52 ∷ 48 ∷ 55 ∷ 51 ∷ 55 ∷ 48 ∷ 57 ∷ 53 ∷ 53 ∷ 49 ∷ 54 ∷ 49 ∷ 52 ∷ 32 ∷ 48 ∷ 32 ∷ 48 ∷ 32 ∷ 48 ∷ 10 ∷ [])
    ++ end_of_six))))))

-- "trace kind 11": the same for a guest that knows no ranges, with 1 and then with 0 in R2, and access of frame 3
abbrev pub legacy_log : List ℕ
legacy_log = run_guest 11 (share 1 ++ (share 0 ++ (header 11 8 ++ argument 0 0 0 3)))

-- `monitor 1`, `0 0 0 0 0` three times, `10 18446744073709551613 0 0 0`, `10 0 0 0 0`, `0 1 0 0 0`, `end 6`
abbrev pub legacy_text : List ℕ
legacy_text =
    first_line
    ++ (zeros ++ (zeros ++ (zeros
    ++ ((49 ∷ 48 ∷ 32 ∷ 49 ∷ 56 ∷ 52 ∷ 52 ∷ 54 ∷ 55 ∷ 52 ∷ 52 ∷ 48 ∷ 55 ∷ 51 ∷ 55 ∷ 48 ∷ 57 ∷ 53 ∷ 53 ∷ 49 ∷ 54 ∷ 49 ∷ 51 ∷ 32 ∷ 48 ∷ 32 ∷ 48 ∷ 32 ∷ 48 ∷ 10 ∷ [])
    ++ ((49 ∷ zeros) ++ (accessible ++ end_of_six))))))

-- a log, and the whole output of its replay
abbrev log_case : List ℕ → List ℕ → Case (List ℕ)
log_case log text = record { found = replay_text log; expected = text }

-- the same with the log in pieces
abbrev pieces_case : List (List ℕ) → List ℕ → Case (List ℕ)
pieces_case pieces text = record { found = line_text First ++ pieces_text fresh_replay [] pieces; expected = text }

-- the example with a cut in its second record, a log that ends in the first bytes of one, and a piece that comes behind a bad record
abbrev pub cases : List (Case (List ℕ))
cases =
    log_case example_log example_text ∷ log_case [] empty_text ∷ log_case bad_log cut_text ∷ log_case bounds_log bounds_text ∷ log_case legacy_log legacy_text
    ∷ pieces_case (take 7 example_log ∷ drop 7 example_log ∷ []) example_text
    ∷ pieces_case (header 3 1 ∷ (0 ∷ []) ∷ []) cut_text
    ∷ pieces_case (take 10 bad_log ∷ header 3 1 ∷ []) cut_text
    ∷ []
