-- What is seen of a state, and of one in which a word or a record was put. Nothing after this file speaks of bits.
use mathlib.Core.Path.{◌≡◌, ap}
use mathlib.Core.Logic.{◌≢◌}
use mathlib.Core.Bool.{true}
use mathlib.Core.List.{List}
use Prim.Native.Nat.{ℕ, ◌+◌, ◌*◌, ◌<◌, ◌≤◌}
use native.Mathlib.Decide.{ℕ_discrete, dec_lt}
use native.Mathlib.Nat.{mul-le-mul_right}
use native.Mathlib.Omega.{arith}
use lib.ListN.{length, get_or, set}
use lib.Seq.{get_or-set_same, get_or-set_other}
use Rattle.words.specs.MapWord.{map_bits, map_word_of}
use Rattle.words.specs.FrameWord.{frame_bits, frame_word_of}
use Rattle.words.specs.declared.map_word.MapWord.{MapWord}
use Rattle.words.specs.declared.frame_word.FrameWord.{FrameWord}
use Rattle.words.proofs.MapWordLaws.{MapFits, map_decode_encode}
use Rattle.words.proofs.FrameWordLaws.{FrameFits, frame_decode_encode}
use Rattle.words.proofs.Booleans.{both_true}
use Rattle.tables.specs.Length.{width_of, frames_hold, map_holds, lengths_hold}
use Rattle.tables.proofs.LengthLaws.{frames_at_most, width_between}
use Rattle.commands.specs.State.{State}

-- what the word of frame f says
unfoldable pub own : State → ℕ → FrameWord
own s f = frame_word_of (get_or s.frames f 0)

-- what the word of granule g of slot v says, in rows of W words
unfoldable pub look : ℕ → State → ℕ → ℕ → MapWord
look W s v g = map_word_of (get_or s.map (v * W + g) 0)

-- F frame words, 8 × W map words, eight records
pub record Sized (F W : ℕ) (s : State) : Type 0 where
  pub bounds : lengths_hold F (8 * W) ≡ true
  pub frame_words : length s.frames ≡ F
  pub map_words : length s.map ≡ 8 * W
  pub guests : length s.monitor.guests ≡ 8

-- the same, as the definitions say it
pub lengths_hold_lem : {F W : ℕ} {s : State} → Sized F W s → lengths_hold (length s.frames) (length s.map) ≡ true
lengths_hold_lem z = rw (z.frame_words, z.map_words) z.bounds

pub width_is : {F W : ℕ} {s : State} → Sized F W s → width_of (length s.map) ≡ W
width_is z = omega (arith, z.map_words)

pub at_most : {F W : ℕ} {s : State} → Sized F W s → (F ≤ 16384) × (W ≤ 4096)
at_most {F} {W} z =
    let p = both_true (frames_hold F) (map_holds (8 * W)) z.bounds in
    (frames_at_most F p.0, omega (arith, width_between (8 * W) p.1))

-- what holds of one number, and of every other, holds of all
pub at_or_not : (P : ℕ → Type 0) (n k : ℕ) → P n → (k ≢ n → P k) → P k
at_or_not P n k here there = go (ℕ_discrete k n)
  where
    go : Dec (k ≡ n) → P k
    go (yes e) = rw e here
    go (no e) = there e

index_less : (W v g u h : ℕ) → g < W → v < u → v * W + g ≡ u * W + h → ⊥
index_less W v g u h l m e = omega (arith, mul-le-mul_right W m)

-- granules of rows of W words have words of their own
pub index_same : (W v g u h : ℕ) → g < W → h < W → v * W + g ≡ u * W + h → (v ≡ u) × (g ≡ h)
index_same W v g u h l m e = go (dec_lt v u) (dec_lt u v)
  where
    go : Dec (v < u) → Dec (u < v) → (v ≡ u) × (g ≡ h)
    go (yes p) d = absurd (index_less W v g u h l p e)
    go (no n) (yes p) = absurd (index_less W u h v g m p (omega arith))
    go (no n) (no p) =
        let slots : v ≡ u = omega arith in
        let rows : v * W ≡ u * W = ap (λ (x : ℕ). x * W) slots in
        (slots, omega arith)

pub index_below : (W v g : ℕ) → v < 8 → g < W → v * W + g < 8 * W
index_below W v g h l = omega (arith, mul-le-mul_right W h)

module _ (words : List ℕ) where
  -- the frame words with that of frame f built anew
  pub frame_built : (f : ℕ) (d : FrameWord) → f < length words → FrameFits d → frame_word_of (get_or (set words f (frame_bits d)) f 0) ≡ d
  frame_built f d h fits = rw (get_or-set_same words f (frame_bits d) 0 h) (frame_decode_encode d fits)

  pub frame_other : (f k : ℕ) (d : FrameWord) → k ≢ f → frame_word_of (get_or (set words f (frame_bits d)) k 0) ≡ frame_word_of (get_or words k 0)
  frame_other f k d n = ap frame_word_of (get_or-set_other words f k (frame_bits d) 0 n)

  -- the map words with that of granule g of slot v built anew
  pub map_built : (W v g : ℕ) (d : MapWord) → v * W + g < length words → MapFits d
      → map_word_of (get_or (set words (v * W + g) (map_bits d)) (v * W + g) 0) ≡ d
  map_built W v g d h fits = rw (get_or-set_same words (v * W + g) (map_bits d) 0 h) (map_decode_encode d fits)

  pub map_other : (W v g u h : ℕ) (d : MapWord) → g < W → h < W → ((u ≡ v) × (h ≡ g) → ⊥)
      → map_word_of (get_or (set words (v * W + g) (map_bits d)) (u * W + h) 0) ≡ map_word_of (get_or words (u * W + h) 0)
  map_other W v g u h d l m n =
      ap map_word_of (get_or-set_other words (v * W + g) (u * W + h) (map_bits d) 0 (λ e. n (index_same W u h v g m l e)))
