-- What the definitions over rows, records' words and ranges say from a place on, by what stands at that place and behind it.
use mathlib.Core.Path.{◌≡◌, refl, sym}
use mathlib.Core.Logic.{◌≢◌}
use mathlib.Core.Bool.{true, false, cond, ◌&&◌}
use mathlib.Core.List.{List, ◌∷◌, append-nil}
use Prim.Native.Nat.{ℕ, suc, ◌+◌, ◌*◌, ◌-◌, ◌≤◌, ◌<◌}
use native.Mathlib.Decide.{dec_lt}
use native.Mathlib.Omega.{arith}
use borrow.Author.Tests.{lt-ltb, le-ltb, eq-eqb, ne_eqb}
use lib.Dec.{ltb}
use lib.ListN.{length, get_or, take, drop, replicate, length-drop, drop_of_length-le}
use lib.Seq.{drop-cons, take_all, length-take-le, paste}
use Rattle.std.specs.Prelude.{Ok, Err}
use Rattle.words.specs.MapWord.{map_bits, map_word_of}
use Rattle.pairs.specs.Pair.{granule_state, granule_undamaged}
use Rattle.pairs.specs.declared.pairs.GranuleState.{GranuleState}
use Rattle.pairs.specs.declared.pairs.GranuleState.TheVariants as granule-state
use Rattle.records.specs.Monitor.{guest_length}
use Rattle.rows.specs.WholeRow.{row_vacant, undamaged_from, row_undamaged}
use Rattle.runs.specs.Run.{ended, run}
use Rattle.granules.specs.Step.{place, row_step, stop_by}
use Rattle.granules.specs.declared.kinds.Operation.{Operation}
use Rattle.granules.specs.declared.step.StepError.TheVariants.{NotDone}
use Rattle.ranges.proofs.RangeLaws.{Going, row_ended}
use Rattle.record_words.specs.Words.{words_from, same_words}

word_and_rest : (row : List ℕ) (i : ℕ) → i < length row → drop i row ≡ get_or row i 0 ∷ drop (i + 1) row
word_and_rest row i h = let e : suc i ≡ i + 1 = omega arith in rw e at (drop-cons row i 0 h)

-- the words before i are vacant
module _ (row : List ℕ) (i : ℕ) (e : row_vacant row ≡ row_vacant (drop i row)) where
  pub vacant_all : length row ≤ i → true ≡ row_vacant row
  unfolding row_vacant
  vacant_all h = rw (e, drop_of_length-le row h)

  pub vacant_not : i < length row → (get_or row i 0 ≡ 0 → ⊥) → false ≡ row_vacant row
  unfolding row_vacant map_bits
  vacant_not h n = rw (e, word_and_rest row i h, ne_eqb (get_or row i 0) 0 n)

  pub vacant_more : i < length row → get_or row i 0 ≡ 0 → row_vacant row ≡ row_vacant (drop (i + 1) row)
  unfolding row_vacant map_bits
  vacant_more h z = rw (e, word_and_rest row i h, eq-eqb (get_or row i 0) 0 z)

-- the words before i are undamaged
module _ (frames : List ℕ) (v : ℕ) (row : List ℕ) (i : ℕ) (e : row_undamaged frames v row ≡ undamaged_from frames v i (drop i row)) where
  pub undamaged_all : length row ≤ i → true ≡ row_undamaged frames v row
  unfolding undamaged_from
  undamaged_all h = rw (e, drop_of_length-le row h)

  undamaged_here : i < length row → (k : GranuleState) → k ≡ granule_state frames v i (map_word_of (get_or row i 0))
      → row_undamaged frames v row ≡ granule_undamaged k && undamaged_from frames v (i + 1) (drop (i + 1) row)
  unfolding undamaged_from
  undamaged_here h k s = let n : suc i ≡ i + 1 = omega arith in rw (e, word_and_rest row i h, s, n)

  pub undamaged_not : i < length row → (k : GranuleState) → k ≡ granule_state frames v i (map_word_of (get_or row i 0)) → k ≡ granule-state.Damaged
      → false ≡ row_undamaged frames v row
  undamaged_not h k s d = sym (rw d at (undamaged_here h k s))

  pub undamaged_more : i < length row → (k : GranuleState) → k ≡ granule_state frames v i (map_word_of (get_or row i 0)) → (k ≡ granule-state.Damaged → ⊥)
      → row_undamaged frames v row ≡ undamaged_from frames v (i + 1) (drop (i + 1) row)
  undamaged_more h granule-state.Vacant s n = undamaged_here h _ s
  undamaged_more h (granule-state.Frame t f) s n = undamaged_here h _ s
  undamaged_more h granule-state.Guarded s n = undamaged_here h _ s
  undamaged_more h granule-state.Damaged s n = absurd (n refl)

-- two rows of words compared from word i on
module _ (a b : List ℕ) (i : ℕ) where
  module _ (h : i < length a) (k : i < length b) where
    pub words_differ : get_or a i 0 ≢ get_or b i 0 → same_words (drop i a) (drop i b) ≡ false
    words_differ n = rw (drop-cons a i 0 h, drop-cons b i 0 k, ne_eqb (get_or a i 0) (get_or b i 0) n)

    pub words_alike : get_or a i 0 ≡ get_or b i 0 → same_words (drop i a) (drop i b) ≡ same_words (drop (i + 1) a) (drop (i + 1) b)
    words_alike e = let next : i + 1 ≡ suc i = omega arith in rw (drop-cons a i 0 h, drop-cons b i 0 k, eq-eqb (get_or a i 0) (get_or b i 0) e, next)

  pub words_end : length a ≤ i → length b ≤ i → same_words (drop i a) (drop i b) ≡ true
  words_end h k = rw (drop_of_length-le a h, drop_of_length-le b k)

-- the part that the words of slot v's record are, copied over as many
pub copied_whole : (w : List ℕ) (v : ℕ) → length w ≡ guest_length * 8 → v < 8
    → let start = guest_length * v in
    let part = take (start + guest_length - start) (drop start w) in
    paste (replicate guest_length 0) 0 part (length part) ≡ take guest_length (words_from w v)
copied_whole w v h l =
    let start = guest_length * v in
    let same : start + guest_length - start ≡ guest_length = omega arith in
    let own = take guest_length (words_from w v) in
    let rest : guest_length ≤ length w - start = omega (arith, h, l) in
    let long : length own ≡ guest_length = length-take-le guest_length (words_from w v) (rw (length-drop start w) rest) in
    rw (same, long) (rw (take_all guest_length own (omega (arith, long)), append-nil own))

-- d granules of a range are done, and it came to the limit or to the row's end
module _ {o : Operation} {v : ℕ} {row₀ frames₀ : List ℕ} {g : ℕ} {row frames : List ℕ} {d : ℕ} (i : Going o v row₀ frames₀ g row frames d) where
  pub ran : (limit : ℕ) → d ≤ limit → (d < limit → length row ≤ g + d) → run (row_step o v (length row₀)) limit (place row₀ frames₀ g)
      ≡ ended d (place row frames (g + d)) (stop_by (cond (ltb d limit) (Err NotDone) (Ok tt)))
  ran limit few b = go (dec_lt d limit)
    where
      go : Dec (d < limit) → run (row_step o v (length row₀)) limit (place row₀ frames₀ g)
          ≡ ended d (place row frames (g + d)) (stop_by (cond (ltb d limit) (Err NotDone) (Ok tt)))
      go (yes h) = rw (lt-ltb d limit h) (row_ended i limit h (b h))
      go (no q) = let all : limit ≡ d = omega arith in rw (le-ltb d limit (omega arith), all) i.so
