-- How the pair tests come out, by the tests that are made on the way.
use mathlib.Core.Path.{◌≡◌}
use mathlib.Core.Bool.{Bool, cond}
use mathlib.Core.List.{List}
use Prim.Native.Nat.{ℕ, ◌<◌, ◌≤◌}
use native.Mathlib.Decide.{dec_lt}
use native.Mathlib.Omega.{arith}
use borrow.Author.Tests.{lt-ltb, le-ltb}
use lib.ListN.{length, get_or}
use Rattle.words.specs.MapWord.{map_word_of, names_frame}
use Rattle.words.specs.FrameWord.{frame_word_of, names_granule}
use Rattle.words.specs.declared.map_word.MapWord.TheVariants as map-word
use Rattle.words.specs.declared.frame_word.FrameWord.{FrameWord}
use Rattle.words.specs.declared.frame_word.FrameWord.TheVariants as frame-word
use Rattle.words.proofs.FrameWordLaws.{frame_fits}
use Rattle.tables.specs.Length.{width_of}
use Rattle.tables.specs.Row.{row_of, word_at}
use Rattle.pairs.specs.Pair.{granule_state, pair_at, frame_state, pair_of}
use Rattle.pairs.specs.declared.pairs.GranuleState.TheVariants as granule-state
use Rattle.pairs.specs.declared.pairs.FrameState.TheVariants as frame-state
use Rattle.tables.proofs.RowLaws.{in_row, off_row}

-- a granule whose map word names frame f
module _ (frames : List ℕ) (v g f : ℕ) (s : Bool) where
  pub frame_beyond : length frames ≤ f → granule-state.Damaged ≡ granule_state frames v g (map-word.Frame s f)
  unfolding granule_state
  frame_beyond h = rw (le-ltb f (length frames) h)

  pub frame_tested : f < length frames → (named b : Bool) → named ≡ names_granule v s g (frame_word_of (get_or frames f 0)) → named ≡ b
      → cond b (granule-state.Frame s f) granule-state.Damaged ≡ granule_state frames v g (map-word.Frame s f)
  unfolding granule_state
  frame_tested h named b e t = rw (lt-ltb f (length frames) h, ← e, t)

-- granule g of slot v, looked up in the slot's row
module _ (frames map : List ℕ) (v g : ℕ) (words : List ℕ) (e : words ≡ row_of map v) where
  pub granule_in_row : g < length words → granule_state frames v g (map_word_of (get_or words g 0)) ≡ pair_at frames map v g
  unfolding pair_at
  granule_in_row h =
      let r = in_row map v g words e h in
      rw (lt-ltb v 8 r.slot, lt-ltb g (width_of (length map)) r.granule, r.word)

  pub granule_off_row : length words ≤ g → granule-state.Damaged ≡ pair_at frames map v g
  unfolding pair_at
  granule_off_row h = go (dec_lt v 8)
    where
      go : Dec (v < 8) → granule-state.Damaged ≡ pair_at frames map v g
      go (yes hv) = rw (lt-ltb v 8 hv, le-ltb g (width_of (length map)) (off_row map v g words e h hv))
      go (no n) = rw (le-ltb v 8 (omega arith))

-- a frame whose frame word names granule g of slot v, looked up in the slot's row
module _ (map : List ℕ) (f v g : ℕ) (s : Bool) (words : List ℕ) (e : words ≡ row_of map v) where
  pub owner_beyond : v < 8 → length words ≤ g → frame-state.Damaged ≡ frame_state map f (frame-word.Owned v s g)
  unfolding frame_state
  owner_beyond hv h = rw (le-ltb g (width_of (length map)) (off_row map v g words e h hv))

  pub owner_tested : g < length words → (named b : Bool) → named ≡ names_frame s f (map_word_of (get_or words g 0)) → named ≡ b
      → cond b (frame-state.Owned v s g) frame-state.Damaged ≡ frame_state map f (frame-word.Owned v s g)
  unfolding frame_state
  owner_tested h named b t u =
      let r = in_row map v g words e h in
      let back : named ≡ names_frame s f (map_word_of (word_at map v g)) = rw r.word at t in
      rw (lt-ltb g (width_of (length map)) r.granule, ← back, u)

-- a frame of the table, by what its word said, and one beyond it
module _ (frames map : List ℕ) (f : ℕ) where
  pub frame_reached : f < length frames → (d k : FrameWord) → d ≡ frame_word_of (get_or frames f 0) → d ≡ k → frame_state map f k ≡ pair_of frames map f
  unfolding pair_of
  frame_reached h d k e o = rw (lt-ltb f (length frames) h, ← e, o)

  pub frame_none : length frames ≤ f → frame-state.Damaged ≡ pair_of frames map f
  unfolding pair_of
  frame_none h = rw (le-ltb f (length frames) h)

-- an owner that a word named is one of the eight slots
pub owner_slot : (w : ℕ) (d : FrameWord) (v g : ℕ) (s : Bool) → d ≡ frame_word_of w → d ≡ frame-word.Owned v s g → v < 8
owner_slot w d v g s e o = (rw (← e, o) at (frame_fits w)).0
