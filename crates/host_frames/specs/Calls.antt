-- Document 01, "Host calls": cleared, and may the host access this frame; with "Verdicts, in the order they are tested".
use Rattle.std.specs.Prelude.{true, false, [], ◌∷◌, ◌++◌, ℕ, ltb, length, set}
use Rattle.words.specs.FrameWord.{frame_bits}
use Rattle.words.specs.declared.frame_word.FrameWord.TheVariants as frame-word
use Rattle.pairs.specs.Pair.{pair_of, frame_undamaged, frame_waiting}
use Rattle.pairs.specs.declared.pairs.FrameState.{FrameState}
use Rattle.pairs.specs.declared.pairs.FrameState.TheVariants as frame-state
use Rattle.commands.specs.State.{State, Answered}
use Rattle.commands.specs.Tests.{Tests}
use Rattle.commands.specs.Command.{View, both_tables, no_slot, host_success, Effect, answer_only, write_tables, Command, command, performed}
use Rattle.records.specs.declared.change.Change.TheVariants.{Kept}
use Rattle.answers.specs.declared.answer.Answer.{Answer}
use Rattle.answers.specs.declared.answer.Answer.TheVariants.{Done, OutOfRange, Damaged, NotWaiting}

-- "v0 is 1 for a host's or shared frame, else 0."
abbrev pub open_to : FrameState → ℕ
open_to frame-state.Host = 1
open_to frame-state.Waiting = 0
open_to (frame-state.Owned v true g) = 1
open_to (frame-state.Owned v false g) = 0
open_to frame-state.Damaged = 0

-- a call about frame f, of n frames, after lengths (1): frame in range (4)
abbrev pub range_tests : ℕ → ℕ → Tests Answer
range_tests n f = (ltb f n, OutOfRange) ∷ []

-- then, of a frame in the state k: "the frame and its partner" (6), and for cleared "frame not waiting" (8)
abbrev pub access_looks : FrameState → Tests Answer
access_looks k = (frame_undamaged k, Damaged) ∷ []

abbrev pub cleared_looks : FrameState → Tests Answer
cleared_looks k = (frame_undamaged k, Damaged) ∷ (frame_waiting k, NotWaiting) ∷ []

-- "Cleared: a waiting frame becomes the host's and can be donated again."
abbrev pub handed_back : ℕ → View → Effect
handed_back f x = write_tables (set x.frames f (frame_bits frame-word.Host)) x.map Kept (host_success 0)

abbrev pub cleared_command : ℕ → Command
cleared_command f =
    command both_tables no_slot (λ x. range_tests (length x.frames) f ++ cleared_looks (pair_of x.frames x.map f)) (handed_back f)

unfoldable pub cleared_of : ℕ → State → Answered
cleared_of f s = performed (cleared_command f) s

-- "May the host access this frame"; "A shared or private frame is checked against its owner's map word."
abbrev pub access_command : ℕ → Command
access_command f =
    command both_tables no_slot (λ x. range_tests (length x.frames) f ++ access_looks (pair_of x.frames x.map f))
    (λ x. answer_only (Done (open_to (pair_of x.frames x.map f))))

unfoldable pub host_access_of : ℕ → State → Answered
host_access_of f s = performed (access_command f) s
