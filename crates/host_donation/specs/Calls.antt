-- Document 01, "Host calls": donate; with "Verdicts, in the order they are tested".
use Rattle.std.specs.Prelude.{false, List, [], ◌∷◌, ℕ, ltb, length, set}
use Rattle.words.specs.MapWord.{map_bits}
use Rattle.words.specs.FrameWord.{frame_bits}
use Rattle.words.specs.declared.map_word.MapWord.TheVariants as map-word
use Rattle.words.specs.declared.frame_word.FrameWord.TheVariants as frame-word
use Rattle.tables.specs.Length.{width_of}
use Rattle.tables.specs.Row.{word_index}
use Rattle.pairs.specs.Pair.{pair_at, pair_of, granule_undamaged, granule_vacant, frame_undamaged, frame_hosts}
use Rattle.commands.specs.State.{State, Answered}
use Rattle.commands.specs.Tests.{Tests}
use Rattle.commands.specs.Command.{View, both_tables, given_slot, host_success, Effect, write_tables, Command, command, performed}
use Rattle.records.specs.declared.change.Change.TheVariants.{Kept}
use Rattle.answers.specs.declared.answer.Answer.{Answer}
use Rattle.answers.specs.declared.answer.Answer.TheVariants.{OutOfRange, InUse, Damaged}

-- donate frame f to granule g of slot v, after lengths (1) and slot (2): frame and granule in range (4), "the granule's and the frame's words,
-- each with its partner" (6), "frame not the host's, or granule not vacant" (5)
abbrev pub donate_tests : ℕ → ℕ → List ℕ → List ℕ → ℕ → Tests Answer
donate_tests f g frames map v =
    (ltb f (length frames), OutOfRange)
    ∷ (ltb g (width_of (length map)), OutOfRange)
    ∷ (granule_undamaged (pair_at frames map v g), Damaged)
    ∷ (frame_undamaged (pair_of frames map f), Damaged)
    ∷ (frame_hosts (pair_of frames map f), InUse)
    ∷ (granule_vacant (pair_at frames map v g), InUse)
    ∷ []

-- "Donate a host frame to a vacant granule of a live guest: it becomes private."
abbrev pub donated : ℕ → ℕ → View → Effect
donated f g x =
    write_tables
    (set x.frames f (frame_bits (frame-word.Owned x.slot false g)))
    (set x.map (word_index (length x.map) x.slot g) (map_bits (map-word.Frame false f)))
    Kept (host_success 0)

abbrev pub donate_command : ℕ → ℕ → ℕ → Command
donate_command v f g = command both_tables (given_slot v) (λ x. donate_tests f g x.frames x.map x.slot) (donated f g)

unfoldable pub donate_of : ℕ → ℕ → ℕ → State → Answered
donate_of v f g s = performed (donate_command v f g) s
