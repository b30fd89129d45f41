-- Pairs as computed cases.
use mathlib.Core.Path.{◌≡◌, refl}
use mathlib.Core.Bool.{true, false}
use mathlib.Core.List.{List, [], ◌∷◌, map}
use Prim.Native.Nat.{ℕ}
use Rattle.words.specs.MapWord.{map_word_of}
use Rattle.words.specs.FrameWord.{frame_word_of}
use Rattle.pairs.specs.Pair.{granule_state, pair_at, frame_state, pair_of}
use Rattle.pairs.specs.declared.pairs.GranuleState.{GranuleState}
use Rattle.pairs.specs.declared.pairs.GranuleState.TheVariants as granule-state
use Rattle.pairs.specs.declared.pairs.FrameState.TheVariants as frame-state

-- Eight frames: private to granule 0 of slot 0; shared, of granule 1 of slot 1; the host's; waiting; private to granule 2 of slot 0, which a
-- row of two granules does not have; private to granule 1 of slot 3, which is vacant; private to granule 1 of slot 4, whose word says shared;
-- shared, of granule 1 of slot 6, whose word says private.
abbrev frames : List ℕ
frames = 0x01000000 ∷ 0x02010001 ∷ 0 ∷ 0xFF000000 ∷ 0x01000002 ∷ 0x04000001 ∷ 0x05000001 ∷ 0x07010001 ∷ []

-- Eight rows of two granules. The word behind slot 0's row, the first of slot 1's, names the frame whose word names granule 2 of slot 0.
abbrev rows : List ℕ
rows =
    0x40000000 ∷ 0x40000000
    ∷ 0x40000004 ∷ 0x80000001
    ∷ 0x40000002 ∷ 0x40000008
    ∷ 0xC0000000 ∷ 0
    ∷ 0x40010000 ∷ 0x80000006
    ∷ 0 ∷ 0x40000005
    ∷ 0 ∷ 0x40000007
    ∷ 0 ∷ 0 ∷ []

abbrev granule : ℕ × ℕ → GranuleState
granule p = pair_at frames rows p.0 p.1

-- In slots 0 and 1 one of two words that name a frame is named back; slot 2 names the host's frame and one not below F; that a frame
-- word names the vacant granule of slot 3 does not count; granule 0 of slot 4 has a bit between kind and frame, granule 1 of slots 4 and 6 is
-- named back unlike, and the frame of slot 5's names slot 3; granule 2 is not below W, and there is no slot 8.
pub granules : map granule ((0, 0) ∷ (0, 1) ∷ (1, 0) ∷ (1, 1) ∷ (2, 0) ∷ (2, 1) ∷ (3, 0) ∷ (3, 1) ∷ (4, 0) ∷ (4, 1) ∷ (5, 1) ∷ (6, 1) ∷ (0, 2) ∷ (8, 0) ∷ [])
    ≡ granule-state.Frame false 0 ∷ granule-state.Damaged ∷ granule-state.Damaged ∷ granule-state.Frame true 1 ∷ granule-state.Damaged ∷ granule-state.Damaged
    ∷ granule-state.Guarded ∷ granule-state.Vacant ∷ granule-state.Damaged ∷ granule-state.Damaged ∷ granule-state.Damaged ∷ granule-state.Damaged ∷ granule-state.Damaged ∷ granule-state.Damaged ∷ []
unfolding map_word_of frame_word_of granule_state pair_at
granules = refl

pub frames_found : map (pair_of frames rows) (0 ∷ 1 ∷ 2 ∷ 3 ∷ 4 ∷ 5 ∷ 6 ∷ 7 ∷ 8 ∷ [])
    ≡ frame-state.Owned 0 false 0 ∷ frame-state.Owned 1 true 1 ∷ frame-state.Host ∷ frame-state.Waiting ∷ frame-state.Damaged ∷ frame-state.Damaged ∷ frame-state.Damaged ∷ frame-state.Damaged ∷ frame-state.Damaged ∷ []
unfolding map_word_of frame_word_of frame_state pair_of
frames_found = refl
