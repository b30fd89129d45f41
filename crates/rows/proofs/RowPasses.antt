-- A pass over a row: what the definitions say of the words from number i on, by the word at i and the words after it.
use mathlib.Core.Path.{◌≡◌, refl, sym, ap, ◌∙◌}
use mathlib.Core.Bool.{◌&&◌}
use mathlib.Core.List.{List, [], ◌∷◌, ◌++◌}
use Prim.Native.Nat.{ℕ, suc, ◌+◌, ◌<◌, ◌≤◌}
use native.Mathlib.Nat.{zero-add}
use native.Mathlib.Omega.{arith}
use lib.ListN.{length, get_or, drop, take, set, length-set, drop_of_length-le, replicate-append-replicate}
use lib.Seq.{drop-cons, take_all, take-suc-set, drop-set-lt}
use lib.Dec.{eqb}
use Rattle.std.specs.List.{list_all, enumerate_from}
use Rattle.words.specs.MapWord.{map_bits, map_word_of}
use Rattle.words.specs.declared.map_word.MapWord.{MapWord}
use Rattle.words.specs.declared.map_word.MapWord.TheVariants as map-word
use Rattle.pairs.specs.Pair.{granule_state, granule_undamaged}
use Rattle.rows.specs.WholeRow.{row_vacant, undamaged_from, vacant_row, frame_freed, frames_freed, frame_named, frames_named}

word_and_rest : (row : List ℕ) (i : ℕ) → i < length row → drop i row ≡ get_or row i 0 ∷ drop (i + 1) row
word_and_rest row i h = let e : suc i ≡ i + 1 = omega arith in rw e at (drop-cons row i 0 h)

-- every word vacant
pub vacant_each : (row : List ℕ) → list_all (λ w. eqb w 0) row ≡ row_vacant row
unfolding row_vacant map_bits
vacant_each [] = refl
vacant_each (w ∷ ws) = ap (λ b. eqb w 0 && b) (vacant_each ws)

-- every granule undamaged, the first of them numbered n
pub undamaged_each : (frames : List ℕ) (v n : ℕ) (row : List ℕ)
    → list_all (λ p. granule_undamaged (granule_state frames v p.0 (map_word_of p.1))) (enumerate_from n row) ≡ undamaged_from frames v n row
unfolding undamaged_from
undamaged_each frames v n [] = refl
undamaged_each frames v n (w ∷ ws) =
    let next : n + 1 ≡ suc n = omega arith in
    ap (λ b. granule_undamaged (granule_state frames v n (map_word_of w)) && b) (rw (← next) (undamaged_each frames v (n + 1) ws))

-- a word names at most one frame
named_one : (d : MapWord) → frame_named d ≤ 1
named_one map-word.Vacant = omega arith
named_one (map-word.Frame s f) = omega arith
named_one map-word.Guarded = omega arith
named_one map-word.Damaged = omega arith

pub answer_one : (w r : ℕ) → r ≡ frame_named (map_word_of w) → r ≤ 1
answer_one w r e = rw e (named_one (map_word_of w))

-- the words before i are made vacant, and n of them named a frame, which waits
pub record Vacated (row₀ frames₀ row frames : List ℕ) (n i : ℕ) : Type 0 where
  pub few : i ≤ length row
  pub rows : length row ≡ length row₀
  pub frame_words : length frames ≡ length frames₀
  pub vacant : take i row ≡ vacant_row i
  pub freed : frames_freed row₀ frames₀ ≡ frames_freed (drop i row) frames
  pub count : frames_named row₀ ≡ n + frames_named (drop i row)
  pub below : n ≤ i

pub begun : (row₀ frames₀ : List ℕ) → Vacated row₀ frames₀ row₀ frames₀ 0 0
begun row₀ frames₀ = record {
  few = omega arith;
  rows = refl;
  frame_words = refl;
  vacant = refl;
  freed = refl;
  count = sym (zero-add (frames_named row₀));
  below = omega arith;
}

module _ (row₀ frames₀ row frames : List ℕ) (n i : ℕ) (v : Vacated row₀ frames₀ row frames n i) where
  pub all : length row₀ ≤ i → (row ≡ vacant_row (length row₀)) × (frames ≡ frames_freed row₀ frames₀) × (n ≡ frames_named row₀)
  unfolding frames_freed frames_named
  all l =
      let h : length row ≤ i = omega (arith, v.rows) in
      let end : i ≡ length row₀ = omega (arith, v.few, v.rows) in
      let none = drop_of_length-le row h in
      let f : frames_freed row₀ frames₀ ≡ frames = rw none at v.freed in
      let c : frames_named row₀ ≡ n + 0 = rw none at v.count in
      (sym (take_all i row h) ∙ v.vacant ∙ rw end, sym f, omega (arith, c))

  module _ (l : i < length row₀) (frames' : List ℕ) (r : ℕ) where
    h : i < length row
    h = omega (arith, v.rows)

    pub more : (frames' ≡ frame_freed (map_word_of (get_or row i 0)) frames) × (r ≡ frame_named (map_word_of (get_or row i 0))) → length frames' ≡ length frames
        → Vacated row₀ frames₀ (set row i 0) frames' (n + r) (i + 1)
    unfolding frames_freed frames_named map_bits
    more p kept_frames =
        let next : suc i ≡ i + 1 = omega arith in
        let kept : drop (i + 1) (set row i 0) ≡ drop (i + 1) row = drop-set-lt (i + 1) row i 0 (omega arith) in
        let c = rw (word_and_rest row i h) at v.count in
        record {
          few = simp length-set (omega (arith, h));
          rows = length-set row i 0 ∙ v.rows;
          frame_words = kept_frames ∙ v.frame_words;
          vacant = rw (← next) (take-suc-set row i 0 h ∙ ap (λ (x : List ℕ). x ++ (0 ∷ [])) v.vacant) ∙ replicate-append-replicate i 1 0;
          freed = v.freed ∙ rw (word_and_rest row i h, kept, p.0);
          count = rw kept (omega (arith, c, p.1));
          below = omega (arith, v.below, answer_one (get_or row i 0) r p.1);
        }
