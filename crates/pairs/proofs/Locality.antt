-- "What any third word names doesn't count": a pair test sees the word that it looks from, the word that this names, and the lengths.
use mathlib.Core.Path.{◌≡◌, refl}
use mathlib.Core.Bool.{Bool}
use mathlib.Core.List.{List}
use Prim.Native.Nat.{ℕ}
use lib.ListN.{length, get_or}
use Rattle.words.specs.MapWord.{map_word_of}
use Rattle.words.specs.FrameWord.{frame_word_of}
use Rattle.words.specs.declared.map_word.MapWord.{MapWord}
use Rattle.words.specs.declared.map_word.MapWord.TheVariants as map-word
use Rattle.words.specs.declared.frame_word.FrameWord.{FrameWord}
use Rattle.words.specs.declared.frame_word.FrameWord.TheVariants as frame-word
use Rattle.tables.specs.Row.{word_at}
use Rattle.pairs.specs.Pair.{granule_state, pair_at, frame_state, pair_of}

module _ (frames frames' map map' : List ℕ) (F : length frames ≡ length frames') (W : length map ≡ length map') where
  granule_same : (v g : ℕ) (d : MapWord) → ((s : Bool) (f : ℕ) → d ≡ map-word.Frame s f → get_or frames f 0 ≡ get_or frames' f 0)
      → granule_state frames v g d ≡ granule_state frames' v g d
  unfolding granule_state
  granule_same v g map-word.Vacant e = refl
  granule_same v g (map-word.Frame s f) e = rw (F, e s f refl)
  granule_same v g map-word.Guarded e = refl
  granule_same v g map-word.Damaged e = refl

  pub pair_at_local : (v g : ℕ) → word_at map v g ≡ word_at map' v g
      → ((s : Bool) (f : ℕ) → map_word_of (word_at map v g) ≡ map-word.Frame s f → get_or frames f 0 ≡ get_or frames' f 0)
      → pair_at frames map v g ≡ pair_at frames' map' v g
  unfolding pair_at
  pair_at_local v g w e = rw (granule_same v g (map_word_of (word_at map v g)) e, w, W)

  frame_same : (f : ℕ) (d : FrameWord) → ((v g : ℕ) (s : Bool) → d ≡ frame-word.Owned v s g → word_at map v g ≡ word_at map' v g)
      → frame_state map f d ≡ frame_state map' f d
  unfolding frame_state
  frame_same f frame-word.Host e = refl
  frame_same f frame-word.Waiting e = refl
  frame_same f (frame-word.Owned v s g) e = rw (e v g s refl, W)
  frame_same f frame-word.Damaged e = refl

  pub pair_of_local : (f : ℕ) → get_or frames f 0 ≡ get_or frames' f 0
      → ((v g : ℕ) (s : Bool) → frame_word_of (get_or frames f 0) ≡ frame-word.Owned v s g → word_at map v g ≡ word_at map' v g)
      → pair_of frames map f ≡ pair_of frames' map' f
  unfolding pair_of
  pair_of_local f w e = rw (frame_same f (frame_word_of (get_or frames f 0)) e, w, F)
