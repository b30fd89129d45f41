-- Document 01, "Guest calls": "If at least one was done it answers 0, and R1 is the number of granules changed by this call. If none was done,
-- it answers IP or NS with R1 = 0, or verdict 6 if that granule is damaged."
use Rattle.std.specs.Prelude.{◌≡◌, true, false, ◌≤◌}
use Rattle.answers.specs.Answer.{numbers_of}
use Rattle.commands.specs.State.{State, Answered}
use Rattle.ranges.specs.Range.{range_limit}
use Rattle.claims.specs.Pieces.{is_range_refusal, differing}

-- A range call found s. With R0 = 0 it did at least one granule, at most 64, and R1 is the number of map words that it changed; with any
-- other answer it left all as it was. So R0 = 0 exactly when at least one granule was done.
pub record TellsChanges (s : State) (r : Answered) : Type 0 where
  pub done :
      is_range_refusal (numbers_of r.answer) ≡ false
      → (1 ≤ (numbers_of r.answer).v1) × ((numbers_of r.answer).v1 ≤ range_limit) × ((numbers_of r.answer).v1 ≡ differing s.map r.left.map)
  pub none : is_range_refusal (numbers_of r.answer) ≡ true → r.left ≡ s
