-- Document 01, "Guest calls" and "Ranges for demand 3": one granule, by one step.
use Rattle.std.specs.Prelude.{cond, Result, Ok, Err, List, ℕ, suc, ◌+◌, ◌*◌, ltb, length, get_or, set}
use Rattle.runs.specs.Run.{Step, took, refuses, Stop, complete, refused, End, ended}
use Rattle.words.specs.MapWord.{map_bits, map_word_of}
use Rattle.words.specs.FrameWord.{frame_bits}
use Rattle.tables.specs.Length.{width_of}
use Rattle.pairs.specs.Pair.{granule_state}
use Rattle.granules.specs.Kind.{word_with, frame_then, GranuleChange, leave_damaged, leave_other, write_bare, write_framed, change_of}
use Rattle.granules.specs.declared.kinds.Kind.{Kind}
use Rattle.granules.specs.declared.kinds.Operation.{Operation}
use Rattle.granules.specs.declared.step.StepError.{StepError}
use Rattle.granules.specs.declared.step.StepError.TheVariants.{NotDone, Damaged}

-- where a range stands: the map words, the frame words, and the next granule
pub data Place : Type 0 where
  place : List ℕ → List ℕ → ℕ → Place

-- why a granule can't be done: its word is damaged (verdict 6), or it is beyond the row or of another kind (IP or NS)
pub data Refusal : Type 0 where
  is_damaged : Refusal
  not_done : Refusal

-- a change of granule g of slot v, whose map word is the i-th, written
abbrev pub written : Kind → ℕ → ℕ → List ℕ → List ℕ → ℕ → GranuleChange → Step Place Refusal
written makes v i map frames g leave_damaged = refuses is_damaged
written makes v i map frames g leave_other = refuses not_done
written makes v i map frames g (write_bare w) = took (place (set map i w) frames (suc g))
written makes v i map frames g (write_framed f) =
    took (place (set map i (map_bits (word_with makes f))) (set frames f (frame_bits (frame_then makes v g))) (suc g))

-- one granule of slot v, whose row is the `width` map words from the a-th on:
-- "the granule below W; verdict 6 for this granule with its frame; the kind that the call needs"
unfoldable pub step_from : Operation → ℕ → ℕ → ℕ → Place → Step Place Refusal
step_from o v a width (place map frames g) =
    cond (ltb g width)
    (written o.makes v (a + g) map frames g (change_of o (granule_state frames v g (map_word_of (get_or map (a + g) 0)))))
    (refuses not_done)

-- the same where the map words are the row alone
abbrev pub row_step : Operation → ℕ → ℕ → Place → Step Place Refusal
row_step o v width = step_from o v 0 width

-- the same in the whole map table
abbrev pub table_step : Operation → ℕ → Place → Step Place Refusal
table_step o v (place map frames g) = step_from o v (v * width_of (length map)) (width_of (length map)) (place map frames g)

-- what the code's result says
abbrev pub stop_by : Result (Unit {0}) StepError → Stop Refusal
stop_by (Ok u) = complete
stop_by (Err NotDone) = refused not_done
stop_by (Err Damaged) = refused is_damaged

-- a single step at granule g that ended so, and left these words
abbrev pub one_end : Result (Unit {0}) StepError → List ℕ → List ℕ → ℕ → End Place Refusal
one_end (Ok u) map frames g = ended 1 (place map frames (suc g)) complete
one_end (Err NotDone) map frames g = ended 0 (place map frames g) (refused not_done)
one_end (Err Damaged) map frames g = ended 0 (place map frames g) (refused is_damaged)
