-- A granule compared with one that is private or shared, by the frame in its map word and the test of that frame's word.
use mathlib.Core.Path.{◌≡◌, refl, sym, ◌∙◌}
use mathlib.Core.Bool.{Bool, true, false, cond, beq}
use mathlib.Core.List.{List}
use Prim.Native.Nat.{ℕ, ◌<◌, ◌≤◌, ◌^◌, min}
use native.Mathlib.Omega.{arith}
use Rattle.std.specs.Prelude.{Some, None}
use borrow.Author.Tests.{eq-eqb, eqb-true, le-ltb}
use lib.Dec.{eqb}
use lib.ListN.{length, get_or}
use Rattle.words.specs.MapWord.{map_word_of, names_frame}
use Rattle.words.specs.FrameWord.{frame_word_of, names_granule}
use Rattle.words.specs.declared.map_word.MapWord.{MapWord}
use Rattle.words.specs.declared.map_word.MapWord.TheVariants as map-word
use Rattle.words.proofs.Booleans.{beq_self}
use Rattle.words.proofs.MapWordLaws.{MapFits, map_fits, named_frame}
use Rattle.pairs.specs.Pair.{frame_names_back, granule_state}
use Rattle.pairs.specs.Comparison.{frame_compared}
use Rattle.pairs.specs.declared.pairs.GranuleState.TheVariants as granule-state
use Rattle.pairs.proofs.PairLaws.{frame_tested}

module _ (frames : List ℕ) (v g : ℕ) (s : Bool) (w r : ℕ) (in-word : (f : ℕ) → f < 2 ^ 16 → eqb r f ≡ names_frame s f (map_word_of w)) where
  -- the word says no frame of the table as told
  pub compared_beyond : min (2 ^ 16) (length frames) ≤ r → None ≡ frame_compared s (granule_state frames v g (map_word_of w))
  unfolding granule_state
  compared_beyond h = go (map_word_of w) (map_fits w) in-word
    where
      other : (t : Bool) (f : ℕ) (named : Bool) → beq s t ≡ false
          → None ≡ frame_compared s (cond named (granule-state.Frame t f) granule-state.Damaged)
      other t f true e = rw e
      other t f false e = refl

      said : (t : Bool) (f : ℕ) → f < 2 ^ 16 → (same : Bool) → beq s t ≡ same → eqb r f ≡ names_frame s f (map-word.Frame t f)
          → None ≡ frame_compared s (granule_state frames v g (map-word.Frame t f))
      said t f fit true e q =
          let here : r ≡ f = eqb-true r f (q ∙ rw (e, eq-eqb f f refl)) in
          rw (le-ltb f (length frames) (omega arith))
      said t f fit false e q = other t f (frame_names_back frames v t g f) e

      go : (d : MapWord) → MapFits d → ((f : ℕ) → f < 2 ^ 16 → eqb r f ≡ names_frame s f d) → None ≡ frame_compared s (granule_state frames v g d)
      go map-word.Vacant fit i = refl
      go (map-word.Frame t f) fit i = said t f fit (beq s t) refl (i f fit)
      go map-word.Guarded fit i = refl
      go map-word.Damaged fit i = refl

  -- it says frame r, by whether that names the granule back
  pub compared_named : r < min (2 ^ 16) (length frames) → (named b : Bool) → named ≡ names_granule v s g (frame_word_of (get_or frames r 0)) → named ≡ b
      → cond b (Some r) None ≡ frame_compared s (granule_state frames v g (map_word_of w))
  compared_named h named b e t =
      let says : map_word_of w ≡ map-word.Frame s r = named_frame s r (map_word_of w) (sym (in-word r (omega arith)) ∙ eq-eqb r r refl) in
      rw (says, ← frame_tested frames v g r s (omega arith) named b e t) (by b)
    where
      by : (b : Bool) → cond b (Some r) None ≡ frame_compared s (cond b (granule-state.Frame s r) granule-state.Damaged)
      by true = rw (beq_self s)
      by false = refl
