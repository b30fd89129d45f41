-- What the functions of a replay ensure.
use Rattle.std.specs.Prelude.{◌≡◌, ℕ, ◌<◌, ◌≤◌, List, length, drop}
use Rattle.commands.specs.State.{state}
use Rattle.answers.specs.Answer.{numbers_of}
use Rattle.commands.specs.Command.{Result}
use Rattle.records.specs.declared.change.Change.{Change}
use Rattle.trace_lines.specs.Filled.{Filled, with_put}
use Rattle.trace_lines.specs.Line.{text_put}
use Rattle.trace_lines.specs.declared.lines.Line.TheVariants as line
use Rattle.trace.specs.declared.session.Session.{Session}
use Rattle.trace.specs.Replay.{Replay, replay, outcome, outcome_of}

-- what a session keeps, with its tables
abbrev pub kept : Session → List ℕ → List ℕ → Replay
kept s frames map = replay (state frames map s.monitor) s.answered s.stopped

-- of a call that comes to o: the tables and the change are its own, and its line stands behind the text where there is room for the longest line
pub record Answers (o : Result) (frames map : List ℕ) (before after : Filled) (change : Change) : Type 0 where
  pub frames_left : frames ≡ o.frames
  pub map_left : map ≡ o.map
  pub changes : change ≡ o.decision.change
  pub puts : after ≡ with_put before (text_put (length before.text) (line.Answer (numbers_of o.decision.answer)))

-- of some bytes at the start of a piece, so many taken: what they come to is the text, what is kept, and the bytes not taken
pub record Replays (start : Replay) (bytes : List ℕ) (left : Replay) (text : List ℕ) (taken : ℕ) : Type 0 where
  pub comes_to : outcome_of start bytes ≡ outcome text left (drop taken bytes)
  pub within : taken ≤ length bytes

-- of a piece: what it comes to is the text, what is kept, and the bytes still at hand
pub record Turns (start : Replay) (piece : List ℕ) (left : Replay) (held text : List ℕ) : Type 0 where
  pub comes_to : outcome_of start piece ≡ outcome text left held
  -- fewer than the longest record has, so there is room behind them
  pub few : length held < 37
