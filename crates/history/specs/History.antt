-- "Histories start from fresh tables, and only these calls write them."
use Rattle.std.specs.Prelude.{◌≡◌, Bool, true, false, not, ◌&&◌, List, [], ◌∷◌, ℕ, ◌<◌, eqb, length}
use Rattle.words.specs.MapWord.{map_word_of}
use Rattle.words.specs.declared.map_word.MapWord.TheVariants.{Frame}
use Rattle.tables.specs.Length.{width_of}
use Rattle.tables.specs.Row.{word_at}
use Rattle.pairs.specs.declared.pairs.FrameState.{FrameState}
use Rattle.pairs.specs.declared.pairs.FrameState.TheVariants as frame-state
use Rattle.answers.specs.Answer.{numbers_of, verdict_with}
use Rattle.answers.specs.declared.answer.Numbers.{Numbers}
use Rattle.commands.specs.State.{State}
use Rattle.calls.specs.Step.{step}
use Rattle.calls.specs.declared.call.Call.{Call}
use Rattle.history.specs.Log.{Entry}

-- the log of calls in turn: each with what it answers in the state that those before it left
abbrev pub log_of : List Call → State → List Entry
log_of [] s = []
log_of (c ∷ cs) s = record { call = c; told = numbers_of (step c s).answer } ∷ log_of cs (step c s).left

-- a frame that no one but its guest may access, or no one at all
abbrev pub private_or_waiting : FrameState → Bool
private_or_waiting frame-state.Host = false
private_or_waiting frame-state.Waiting = true
private_or_waiting (frame-state.Owned v shared g) = not shared
private_or_waiting frame-state.Damaged = false

-- verdict 4: "queried frame not below F"
abbrev pub no_frame_told : Numbers
no_frame_told = verdict_with 4 0

-- neither verdict 1, "a table length breaks the bounds above", nor 6, "a word that the call must look at is damaged"
abbrev pub is_usual : Numbers → Bool
is_usual n = not (eqb n.verdict 1) && not (eqb n.verdict 6)

-- the word of granule g of slot v names frame f, private or shared
pub record NamesFrame (s : State) (v g f : ℕ) : Type 0 where
  pub slot : v < 8
  pub below : g < width_of (length s.map)
  pub sharing : Bool
  pub word : map_word_of (word_at s.map v g) ≡ Frame sharing f
