-- Document 01, "Trace program": the lines that a replay writes, as bytes.
use Rattle.std.specs.Prelude.{cond, List, [], ◌∷◌, ◌++◌, ℕ, zero, suc, ◌+◌, ◌-◌, ◌/◌, ◌%◌, ltb, leb}
use Rattle.answers.specs.declared.answer.Numbers.{Numbers}
use Rattle.trace_lines.specs.declared.lines.Line.{Line}
use Rattle.trace_lines.specs.declared.lines.Line.TheVariants.{First, Answer, Bad, Last}

-- the ASCII code of a digit below 10
abbrev pub digit : ℕ → ℕ
digit d = 48 + d

-- the numeral of n in decimals, with no zero in front; the first number is how many digits it has at the most
unfoldable pub numeral : ℕ → ℕ → List ℕ
numeral zero n = []
numeral (suc k) n = cond (ltb n 10) (digit n ∷ []) (numeral k (n / 10) ++ (digit (n % 10) ∷ []))

-- "as unsigned 64-bit decimals", which have at most 20 digits
unfoldable pub decimal : ℕ → List ℕ
decimal n = numeral 20 n

-- a number and the byte behind it, a space (32) or a line end (10)
abbrev pub cell : ℕ → ℕ → List ℕ
cell n end = decimal n ++ (end ∷ [])

-- "A line is the verdict and v0 to v3"
abbrev pub answer_text : Numbers → List ℕ
answer_text a = cell a.verdict 32 ++ (cell a.v0 32 ++ (cell a.v1 32 ++ (cell a.v2 32 ++ cell a.v3 10)))

-- `monitor 1`, an answer, `bad`, and `end` with the number of answered records, each with its line end
abbrev pub line_text : Line → List ℕ
line_text First = 109 ∷ 111 ∷ 110 ∷ 105 ∷ 116 ∷ 111 ∷ 114 ∷ 32 ∷ 49 ∷ 10 ∷ []
line_text (Answer a) = answer_text a
line_text Bad = 98 ∷ 97 ∷ 100 ∷ 10 ∷ []
line_text (Last n) = (101 ∷ 110 ∷ 100 ∷ 32 ∷ []) ++ cell n 10

-- what is put behind the first n bytes of a buffer of 131,072: nothing where there is no room for the longest line
abbrev pub text_put : ℕ → Line → List ℕ
text_put n line = cond (leb n (131072 - 105)) (line_text line) []
