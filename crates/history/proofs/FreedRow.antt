-- A row put into the map table, and the frames that a row names freed.
use mathlib.Core.Path.{◌≡◌, refl, sym, ap, ◌∙◌}
use mathlib.Core.Logic.{◌≢◌}
use mathlib.Core.Bool.{Bool}
use mathlib.Core.List.{List, [], ◌∷◌, ◌++◌}
use Prim.Native.Nat.{ℕ, zero, suc, ◌+◌, ◌-◌, ◌<◌, ◌≤◌}
use native.Mathlib.Decide.{ℕ_discrete}
use native.Mathlib.Omega.{arith}
use lib.ListN.{length, get_or, take, drop, length-append, length-set, length-take, length-drop, get_or-append}
use lib.Seq.{get_or-append-add, get_or-take, get_or-drop, get_or-set_same, get_or-set_other}
use Rattle.words.specs.MapWord.{map_word_of}
use Rattle.words.specs.FrameWord.{frame_bits}
use Rattle.words.specs.declared.map_word.MapWord.{MapWord}
use Rattle.words.specs.declared.map_word.MapWord.TheVariants as map-word
use Rattle.words.specs.declared.frame_word.FrameWord.TheVariants as frame-word
use Rattle.rows.specs.WholeRow.{frame_freed, frames_freed}

-- words put in place of those from the a-th on
module _ (map words : List ℕ) (a : ℕ) (inside : a + length words ≤ length map) where
  abbrev pub put : List ℕ
  put = take a map ++ (words ++ drop (a + length words) map)

  before_length : length (take a map) ≡ a
  before_length = length-take a map ∙ omega arith

  pub put_length : length put ≡ length map
  put_length = simp (length-append, length-drop, before_length) (omega arith)

  pub put_before : (k : ℕ) → k < a → get_or put k 0 ≡ get_or map k 0
  put_before k h = get_or-append (take a map) (words ++ drop (a + length words) map) 0 k (omega (arith, before_length)) ∙ get_or-take a map k 0 h

  put_behind : (k : ℕ) → get_or put (a + k) 0 ≡ get_or (words ++ drop (a + length words) map) k 0
  put_behind k = ap (λ (n : ℕ). get_or put (n + k) 0) (sym before_length) ∙ get_or-append-add (take a map) (words ++ drop (a + length words) map) k 0

  pub put_within : (k : ℕ) → k < length words → get_or put (a + k) 0 ≡ get_or words k 0
  put_within k h = put_behind k ∙ get_or-append words (drop (a + length words) map) 0 k h

  pub put_after : (k : ℕ) → a + length words ≤ k → get_or put k 0 ≡ get_or map k 0
  put_after k h =
      let j = k - (a + length words) in
      let here : a + (length words + j) ≡ k = omega arith in
      let there : a + length words + j ≡ k = omega arith in
      ap (λ (n : ℕ). get_or put n 0) (sym here) ∙ put_behind (length words + j) ∙ get_or-append-add words (drop (a + length words) map) j 0
      ∙ get_or-drop (a + length words) map j 0 ∙ ap (λ (n : ℕ). get_or map n 0) there

-- the frame words after the frames of a row were freed
one_length : (d : MapWord) (frames : List ℕ) → length (frame_freed d frames) ≡ length frames
one_length map-word.Vacant frames = refl
one_length (map-word.Frame b f) frames = length-set frames f (frame_bits frame-word.Waiting)
one_length map-word.Guarded frames = refl
one_length map-word.Damaged frames = refl

pub freed_length : (ws frames : List ℕ) → length (frames_freed ws frames) ≡ length frames
unfolding frames_freed
freed_length [] frames = refl
freed_length (w ∷ ws) frames = freed_length ws (frame_freed (map_word_of w) frames) ∙ one_length (map_word_of w) frames

-- a frame that a word says waits; another is left
one_named : (b : Bool) (frames : List ℕ) (f : ℕ) → f < length frames → get_or (frame_freed (map-word.Frame b f) frames) f 0 ≡ frame_bits frame-word.Waiting
one_named b frames f h = get_or-set_same frames f (frame_bits frame-word.Waiting) 0 h

one_other : (d : MapWord) (frames : List ℕ) (f : ℕ) → ((b : Bool) → d ≢ map-word.Frame b f) → get_or (frame_freed d frames) f 0 ≡ get_or frames f 0
one_other map-word.Vacant frames f n = refl
one_other (map-word.Frame b k) frames f n = get_or-set_other frames k f (frame_bits frame-word.Waiting) 0 (λ e. n b (rw e))
one_other map-word.Guarded frames f n = refl
one_other map-word.Damaged frames f n = refl

one_still : (d : MapWord) (frames : List ℕ) (f : ℕ) → f < length frames → get_or frames f 0 ≡ frame_bits frame-word.Waiting
    → get_or (frame_freed d frames) f 0 ≡ frame_bits frame-word.Waiting
one_still map-word.Vacant frames f h e = e
one_still (map-word.Frame b k) frames f h e = go (ℕ_discrete f k)
  where
    go : Dec (f ≡ k) → get_or (frame_freed (map-word.Frame b k) frames) f 0 ≡ frame_bits frame-word.Waiting
    go (yes p) = rw (← p) (one_named b frames f h)
    go (no n) = get_or-set_other frames k f (frame_bits frame-word.Waiting) 0 n ∙ e
one_still map-word.Guarded frames f h e = e
one_still map-word.Damaged frames f h e = e

still_waiting : (ws frames : List ℕ) (f : ℕ) → f < length frames → get_or frames f 0 ≡ frame_bits frame-word.Waiting
    → get_or (frames_freed ws frames) f 0 ≡ frame_bits frame-word.Waiting
unfolding frames_freed
still_waiting [] frames f h e = e
still_waiting (w ∷ ws) frames f h e =
    still_waiting ws (frame_freed (map_word_of w) frames) f (omega (arith, one_length (map_word_of w) frames)) (one_still (map_word_of w) frames f h e)

pub freed_named : (ws frames : List ℕ) (f g : ℕ) (b : Bool) → f < length frames → g < length ws → map_word_of (get_or ws g 0) ≡ map-word.Frame b f
    → get_or (frames_freed ws frames) f 0 ≡ frame_bits frame-word.Waiting
unfolding frames_freed
freed_named [] frames f g b h l e = absurd (omega arith)
freed_named (w ∷ ws) frames f zero b h l e =
    still_waiting ws (frame_freed (map_word_of w) frames) f (omega (arith, one_length (map_word_of w) frames))
    (ap (λ (d : MapWord). get_or (frame_freed d frames) f 0) e ∙ one_named b frames f h)
freed_named (w ∷ ws) frames f (suc g) b h l e =
    freed_named ws (frame_freed (map_word_of w) frames) f g b (omega (arith, one_length (map_word_of w) frames)) (omega arith) e

pub freed_other : (ws frames : List ℕ) (f : ℕ) → ((g : ℕ) (b : Bool) → g < length ws → map_word_of (get_or ws g 0) ≢ map-word.Frame b f)
    → get_or (frames_freed ws frames) f 0 ≡ get_or frames f 0
unfolding frames_freed
freed_other [] frames f n = refl
freed_other (w ∷ ws) frames f n =
    freed_other ws (frame_freed (map_word_of w) frames) f (λ g b h. n (suc g) b (omega arith))
    ∙ one_other (map_word_of w) frames f (λ b. n 0 b (omega arith))
