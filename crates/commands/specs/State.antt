-- All that a call may change, and what it hands back.
use Rattle.std.specs.Prelude.{List, ℕ}
use Rattle.records.specs.declared.monitor.Monitor.{Monitor}
use Rattle.answers.specs.declared.answer.Answer.{Answer}

-- the frame table, the map table, and the records
pub record State : Type 0 where
  pub frames : List ℕ
  pub map : List ℕ
  pub monitor : Monitor

abbrev pub state : List ℕ → List ℕ → Monitor → State
state f m r = record { frames = f; map = m; monitor = r }

-- the state as a call leaves it, and its answer
pub record Answered : Type 0 where
  pub left : State
  pub answer : Answer

abbrev pub answered : State → Answer → Answered
answered s a = record { left = s; answer = a }
