-- What holds where a pair test finds something: a granule's map word says so, and a partner that a word names says it back.
use mathlib.Core.Path.{◌≡◌, refl, ◌∙◌}
use mathlib.Core.Bool.{Bool, true, false, cond}
use mathlib.Core.List.{List}
use Prim.Native.Nat.{ℕ, ◌<◌}
use lib.Dec.{ltb}
use borrow.Author.Tests.{ltb-true}
use lib.ListN.{length, get_or}
use Rattle.words.specs.MapWord.{map_word_of, names_frame}
use Rattle.words.specs.FrameWord.{frame_word_of, names_granule}
use Rattle.words.specs.declared.map_word.MapWord.{MapWord}
use Rattle.words.specs.declared.map_word.MapWord.TheVariants as map-word
use Rattle.words.specs.declared.frame_word.FrameWord.TheVariants as frame-word
use Rattle.words.proofs.Booleans.{never, both_true}
use Rattle.words.proofs.MapWordLaws.{named_frame}
use Rattle.words.proofs.FrameWordLaws.{named_granule}
use Rattle.tables.specs.Length.{width_of}
use Rattle.tables.specs.Row.{word_at}
use Rattle.pairs.specs.Pair.{frame_names_back, granule_state, granule_names_back, frame_state}
use Rattle.pairs.specs.declared.pairs.GranuleState.{GranuleState}
use Rattle.pairs.specs.declared.pairs.GranuleState.TheVariants as granule-state
use Rattle.pairs.specs.declared.pairs.FrameState.TheVariants as frame-state

-- a test that gives x or y gave y only if it gave no x; where it did not give y, it passed
passed : {A : Type 0} (b : Bool) (x y : A) → (cond b x y ≡ y → ⊥) → b ≡ true
passed true x y n = refl
passed false x y n = absurd (n refl)

-- the word that a state which is not damaged was found by
abbrev pub map_word_by : GranuleState → MapWord
map_word_by granule-state.Vacant = map-word.Vacant
map_word_by (granule-state.Frame s f) = map-word.Frame s f
map_word_by granule-state.Guarded = map-word.Guarded
map_word_by granule-state.Damaged = map-word.Damaged

-- granule g of slot v, by what its map word says
module _ (frames : List ℕ) (v g : ℕ) where
  pub granule_says : (d : MapWord) (k : GranuleState) → k ≡ granule_state frames v g d → (k ≡ granule-state.Damaged → ⊥) → d ≡ map_word_by k
  unfolding granule_state
  granule_says map-word.Vacant k e n = rw e
  granule_says (map-word.Frame s f) k e n =
      rw (e, passed (frame_names_back frames v s g f) (granule-state.Frame s f) granule-state.Damaged (λ q. n (e ∙ q)))
  granule_says map-word.Guarded k e n = rw e
  granule_says map-word.Damaged k e n = rw e

  pub granule_names : (s : Bool) (f : ℕ) → granule-state.Frame s f ≡ granule_state frames v g (map-word.Frame s f)
      → (f < length frames) × (frame_word_of (get_or frames f 0) ≡ frame-word.Owned v s g)
  unfolding granule_state
  granule_names s f e =
      let named = names_granule v s g (frame_word_of (get_or frames f 0)) in
      let t = passed (frame_names_back frames v s g f) (granule-state.Frame s f) granule-state.Damaged (λ q. never cc) in
      let p = both_true (ltb f (length frames)) named t in
      (ltb-true f (length frames) p.0, named_granule v s g (frame_word_of (get_or frames f 0)) p.1)

-- frame f, by what its frame word says
module _ (map : List ℕ) (f : ℕ) where
  pub frame_names : (v g : ℕ) (s : Bool) → frame-state.Owned v s g ≡ frame_state map f (frame-word.Owned v s g)
      → (g < width_of (length map)) × (map_word_of (word_at map v g) ≡ map-word.Frame s f)
  unfolding frame_state
  frame_names v g s e =
      let named = names_frame s f (map_word_of (word_at map v g)) in
      let t = passed (granule_names_back map v s g f) (frame-state.Owned v s g) frame-state.Damaged (λ q. never cc) in
      let p = both_true (ltb g (width_of (length map))) named t in
      (ltb-true g (width_of (length map)) p.0, named_frame s f (map_word_of (word_at map v g)) p.1)
