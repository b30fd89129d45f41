-- Document 01, "Host calls" and "Verdict 6 looks at": a whole row, as create and remove look at it and as remove leaves it.
use Rattle.std.specs.Prelude.{Bool, true, ◌&&◌, List, [], ◌∷◌, ℕ, suc, ◌+◌, eqb, set, replicate}
use Rattle.words.specs.MapWord.{map_bits, map_word_of}
use Rattle.words.specs.FrameWord.{frame_bits}
use Rattle.words.specs.declared.map_word.MapWord.{MapWord}
use Rattle.words.specs.declared.map_word.MapWord.TheVariants as map-word
use Rattle.words.specs.declared.frame_word.FrameWord.TheVariants as frame-word
use Rattle.pairs.specs.Pair.{granule_state, granule_undamaged}

-- "its row must be all vacant"
unfoldable pub row_vacant : List ℕ → Bool
row_vacant [] = true
row_vacant (w ∷ ws) = eqb w (map_bits map-word.Vacant) && row_vacant ws

-- the words of granules g, g + 1, .. of slot v, each with its frame
unfoldable pub undamaged_from : List ℕ → ℕ → ℕ → List ℕ → Bool
undamaged_from frames v g [] = true
undamaged_from frames v g (w ∷ ws) = granule_undamaged (granule_state frames v g (map_word_of w)) && undamaged_from frames v (suc g) ws

-- "the row and its frames for remove": "Damage anywhere in the row refuses the whole call."
abbrev pub row_undamaged : List ℕ → ℕ → List ℕ → Bool
row_undamaged frames v row = undamaged_from frames v 0 row

-- "the row becomes vacant": a row of n words
abbrev pub vacant_row : ℕ → List ℕ
vacant_row n = replicate n (map_bits map-word.Vacant)

-- "each frame in it waits to be cleared": the frame of one word, then those of a row
abbrev pub frame_freed : MapWord → List ℕ → List ℕ
frame_freed map-word.Vacant frames = frames
frame_freed (map-word.Frame s f) frames = set frames f (frame_bits frame-word.Waiting)
frame_freed map-word.Guarded frames = frames
frame_freed map-word.Damaged frames = frames

unfoldable pub frames_freed : List ℕ → List ℕ → List ℕ
frames_freed [] frames = frames
frames_freed (w ∷ ws) frames = frames_freed ws (frame_freed (map_word_of w) frames)

-- "v0 is the number of frames": in an undamaged row no two words name one frame, since the frame names one granule back
abbrev pub frame_named : MapWord → ℕ
frame_named map-word.Vacant = 0
frame_named (map-word.Frame s f) = 1
frame_named map-word.Guarded = 0
frame_named map-word.Damaged = 0

unfoldable pub frames_named : List ℕ → ℕ
frames_named [] = 0
frames_named (w ∷ ws) = frame_named (map_word_of w) + frames_named ws
