-- Each case by what the map word says; a frame beyond the table changes no word.
use Rattle.words.specs.FrameWord.{frame_bits}
use mathlib.Core.Path.{refl}
use Rattle.rows.proofs.writes.free_frame.Goals as goal

pub returns-then-frame-frames : goal.returns-then-frame-frames
unfolding frame_bits
returns-then-frame-frames c = rw (← c.from.ensures, c.in-Frame.is) (refl, refl)
