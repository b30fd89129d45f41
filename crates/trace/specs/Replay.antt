-- Document 01, "Trace program": a replay record by record, and the whole output of a whole log.
use Rattle.std.specs.Prelude.{ℕ, zero, suc, ◌+◌, ◌%◌, ◌^◌, Bool, true, false, cond, List, [], ◌∷◌, ◌++◌, length, drop, ◌==◌, Some, None, Ok, Err}
use Rattle.answers.specs.Answer.{numbers_of}
use Rattle.commands.specs.State.{State}
use Rattle.calls.specs.Step.{step, fresh_state}
use Rattle.trace_records.specs.Record.{Decoded, decode_of}
use Rattle.trace_lines.specs.Line.{line_text}
use Rattle.trace_lines.specs.declared.lines.Line.TheVariants as line

-- what a replay keeps: the tables and the records, the number of answered records, and whether a record was bad
pub record Replay : Type 0 where
  pub state : State
  pub answered : ℕ
  pub stopped : Bool

abbrev pub replay : State → ℕ → Bool → Replay
replay s n b = record { state = s; answered = n; stopped = b }

-- "Fresh tables and records are all zero"; "F is 256, W is 64."
abbrev pub fresh_replay : Replay
fresh_replay = replay (fresh_state 256 64) 0 false

-- one record more; a log of 2^64 records can't be had, and the number would begin anew
abbrev pub next_count : ℕ → ℕ
next_count n = (n + 1) % 2 ^ 64

-- what the record at the head of some bytes comes to: what is kept then, the bytes taken, the text written, whether to go on
pub record Advance : Type 0 where
  pub left : Replay
  pub taken : ℕ
  pub text : List ℕ
  pub more : Bool

abbrev pub advance : Replay → ℕ → List ℕ → Bool → Advance
advance r n t b = record { left = r; taken = n; text = t; more = b }

-- nothing is done before more bytes come
abbrev pub waiting : Replay → Advance
waiting r = advance r 0 [] false

abbrev pub advance_by : Replay → List ℕ → Decoded → Advance
advance_by r s (Ok (Some g)) =
    let a = step g.call r.state in
    advance (replay a.left (next_count r.answered) false) g.size (line_text (line.Answer (numbers_of a.answer))) true
-- "prints `bad` and ends the reading": all bytes are passed over
advance_by r s (Err e) = advance (replay r.state r.answered true) (length s) (line_text line.Bad) false
advance_by r s (Ok None) = waiting r

-- after a bad record, those that come later are passed over too
abbrev pub unless_stopped : Bool → Replay → List ℕ → Decoded → Advance
unless_stopped true r s d = advance r (length s) [] false
unless_stopped false r s d = advance_by r s d

unfoldable pub advance_of : Replay → List ℕ → Advance
advance_of r s = unless_stopped r.stopped r s (decode_of s)

-- what some bytes come to: the text of their records, what is kept then, and the bytes of a record that is not finished
pub record ReplayOutcome : Type 0 where
  pub text : List ℕ
  pub left : Replay
  pub rest : List ℕ

abbrev pub outcome : List ℕ → Replay → List ℕ → ReplayOutcome
outcome t r s = record { text = t; left = r; rest = s }

-- the same with a text before it
abbrev pub text_before : List ℕ → ReplayOutcome → ReplayOutcome
text_before t o = outcome (t ++ o.text) o.left o.rest

abbrev pub read_on : Bool → (Replay → List ℕ → ReplayOutcome) → Advance → List ℕ → ReplayOutcome
read_on true more a s = text_before a.text (more a.left (drop a.taken s))
read_on false more a s = outcome a.text a.left (drop a.taken s)

-- record by record; the first number is fuel, one for each record
abbrev pub record_by_record : ℕ → Replay → List ℕ → ReplayOutcome
record_by_record zero r s = outcome [] r s
record_by_record (suc k) r s = let a = advance_of r s in read_on a.more (λ t b. record_by_record k t b) a s

-- a record has a byte at least, so the bytes are fuel enough
unfoldable pub outcome_of : Replay → List ℕ → ReplayOutcome
outcome_of r s = record_by_record (length s) r s

-- the last lines, with n records answered and k bytes left: "A short record .. prints `bad`"; "the last line still follows"
abbrev pub closing : ℕ → ℕ → List ℕ
closing n k = cond (k == 0) [] (line_text line.Bad) ++ line_text (line.Last n)

-- the whole output of a whole log
unfoldable pub replay_text : List ℕ → List ℕ
replay_text log =
    let o = outcome_of fresh_replay log in
    line_text line.First ++ (o.text ++ closing o.left.answered (length o.rest))

-- a log that comes in pieces: what is held of those before stands before the next, and behind the last come the last lines
abbrev pub pieces_text : Replay → List ℕ → List (List ℕ) → List ℕ
pieces_text r held [] = closing r.answered (length held)
pieces_text r held (p ∷ ps) = let o = outcome_of r (held ++ p) in o.text ++ pieces_text o.left o.rest ps
