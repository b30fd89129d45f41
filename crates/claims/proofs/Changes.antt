-- Each single step that is taken changes one map word, at a place that no step before it changed, so the steps done are the words that differ.
use mathlib.Core.Path.{◌≡◌, refl, sym, ap, ◌∙◌}
use mathlib.Core.Logic.{◌≢◌}
use mathlib.Core.Bool.{true, false}
use mathlib.Core.List.{List}
use Prim.Native.Nat.{ℕ, suc, ◌+◌, ◌<◌, ◌≤◌}
use native.Mathlib.Nat.{zero-add}
use native.Mathlib.Omega.{arith}
use borrow.Author.Tests.{ltb-true}
use lib.Dec.{ltb}
use lib.ListN.{length, get_or, length-set}
use lib.Seq.{get_or-set_other}
use Rattle.words.proofs.Booleans.{never}
use Rattle.runs.specs.Run.{took, End, ended, run}
use Rattle.runs.proofs.Kept.{Holds, kept}
use Rattle.words.specs.Granule.{granule_size, granule_of}
use Rattle.words.specs.MapWord.{map_bits, map_word_of}
use Rattle.words.specs.declared.map_word.MapWord.TheVariants as map-word
use Rattle.words.proofs.MapWordLaws.{map_encode_decode}
use Rattle.tables.specs.Length.{width_of}
use Rattle.tables.specs.Row.{word_index, word_at}
use Rattle.pairs.specs.Pair.{granule_state, pair_at}
use Rattle.pairs.specs.declared.pairs.GranuleState.{GranuleState}
use Rattle.pairs.specs.declared.pairs.GranuleState.TheVariants as granule-state
use Rattle.tables.proofs.RowLaws.{row_inside}
use Rattle.pairs.proofs.Found.{map_word_by, granule_says}
use Rattle.commands.specs.State.{State}
use Rattle.answers.specs.declared.answer.Numbers.{Numbers}
use Rattle.commands.proofs.TestLaws.{all_pass}
use Rattle.claims.specs.SingleSteps.{RangeCall, share, unshare, range_guard_map, range_guard_unmap, error_of, kind_right, granule_tests, frame_in, word_made, changed_at, At, at, single_step}
use Rattle.claims.proofs.Differing.{differing_none, differing_set}
use Rattle.claims.specs.Pieces.{differing, CountsChanges}
use Rattle.claims.proofs.StepAgrees.{granule_refusal, granule_step, pair_inside}
use Rattle.claims.proofs.BeforeGranules.{call_refusal, step_gated, Passed, call_passed, gated_passed}

-- the word made differs from the word of the kind that the call needs
other_word : (c : RangeCall) (k : GranuleState) → kind_right c k ≡ true → (w : ℕ) → map_bits (map_word_by k) ≡ w → w ≢ word_made c (frame_in k)
unfolding map_bits
other_word c granule-state.Damaged h w e = never cc
other_word share granule-state.Vacant h w e = never cc
other_word share (granule-state.Frame true f) h w e = never cc
other_word share (granule-state.Frame false f) h w e = omega arith
other_word share granule-state.Guarded h w e = never cc
other_word unshare granule-state.Vacant h w e = never cc
other_word unshare (granule-state.Frame true f) h w e = omega arith
other_word unshare (granule-state.Frame false f) h w e = never cc
other_word unshare granule-state.Guarded h w e = never cc
other_word range_guard_map granule-state.Vacant h w e = omega arith
other_word range_guard_map (granule-state.Frame s f) h w e = never cc
other_word range_guard_map granule-state.Guarded h w e = never cc
other_word range_guard_unmap granule-state.Vacant h w e = never cc
other_word range_guard_unmap (granule-state.Frame s f) h w e = never cc
other_word range_guard_unmap granule-state.Guarded h w e = omega arith

-- a kind that is right is not damaged, and then the word is that of the state
undamaged_kind : (c : RangeCall) (k : GranuleState) → kind_right c k ≡ true → k ≢ granule-state.Damaged
undamaged_kind c k h e = let f : kind_right c k ≡ false = rw e in never cc

damaged_word : (k : GranuleState) → map_word_by k ≡ map-word.Damaged → k ≡ granule-state.Damaged
damaged_word granule-state.Vacant e = cc
damaged_word (granule-state.Frame s f) e = cc
damaged_word granule-state.Guarded e = cc
damaged_word granule-state.Damaged e = refl

state_word : (frames : List ℕ) (v g w : ℕ) (k : GranuleState) → k ≡ granule_state frames v g (map_word_of w) → k ≢ granule-state.Damaged → map_bits (map_word_by k) ≡ w
state_word frames v g w k e n =
    let says : map_word_of w ≡ map_word_by k = granule_says frames v g (map_word_of w) k e n in
    ap map_bits (sym says) ∙ map_encode_decode w (λ d. n (damaged_word k (sym says ∙ d)))

-- what the step of a granule that is taken has passed, and where it goes
pub record GranuleTook (c : RangeCall) (v b : ℕ) (s : State) (t : At) : Type 0 where
  pub below : granule_of b < width_of (length s.map)
  pub word : word_at s.map v (granule_of b) ≢ word_made c (frame_in (pair_at s.frames s.map v (granule_of b)))
  pub to : at (b + granule_size) (changed_at c v b s) ≡ t

pub granule_took : (n : Numbers) (c : RangeCall) (v b : ℕ) (s : State) (t : At) → v < 8 → granule_step n c v (at b s) ≡ took t → GranuleTook c v b s t
granule_took n c v b s t slot e =
    let g = granule_of b in
    let k = pair_at s.frames s.map v g in
    let u = gated_passed (granule_refusal n c v (at b s)) (took (at (b + granule_size) (changed_at c v b s))) t e in
    let to = u.1 in
    let p = all_pass (granule_tests n c (ltb g (width_of (length s.map))) k) u.0 in
    record {
      below = ltb-true g (width_of (length s.map)) p.0;
      word =
          other_word c k p.1.1.0 (word_at s.map v g)
          (state_word s.frames v g (word_at s.map v g) k (pair_inside s.frames s.map v g slot p.0) (undamaged_kind c k p.1.1.0));
      to = cc;
    }

-- and of a single step
pub record SingleTook (c : RangeCall) (v b : ℕ) (s : State) (t : At) : Type 0 where
  pub passed : Passed v b s
  pub granule : GranuleTook c v b s t

pub single_took : (c : RangeCall) (v r3 b : ℕ) (s : State) (t : At) → single_step c v r3 (at b s) ≡ took t → SingleTook c v b s t
single_took c v r3 b s t e =
    let h = gated_passed (call_refusal c v r3 (at b s)) (granule_step (error_of c) c v (at b s)) t (sym (step_gated c v r3 (at b s)) ∙ e) in
    let passes = call_passed c v r3 b s h.0 in
    record { passed = passes; granule = granule_took (error_of c) c v b s t passes.slot h.1 }

-- after k steps of slot v from the state s, before the address b: the words from there on are those of s, and k words differ
record StepsCounted (v : ℕ) (s : State) (k b : ℕ) (t : State) : Type 0 where
  lengths : length t.map ≡ length s.map
  ahead : (i : ℕ) → word_index (length s.map) v (granule_of b) ≤ i → get_or t.map i 0 ≡ get_or s.map i 0
  count : k ≡ differing s.map t.map

StepsCountedAt : ℕ → State → ℕ → At → Type 0
StepsCountedAt v s k (at b t) = StepsCounted v s k b t

module _ (c : RangeCall) (v r3 : ℕ) (s : State) where
  next : (k : ℕ) (p q : At) → StepsCountedAt v s k p → single_step c v r3 p ≡ took q → StepsCountedAt v s (suc k) q
  unfolding StepsCountedAt
  next k (at b t) q i e =
      let u = single_took c v r3 b t q e in
      let g = granule_of b in
      let width : width_of (length t.map) ≡ width_of (length s.map) = ap width_of i.lengths in
      let x = word_index (length t.map) v g in
      let y = word_made c (frame_in (pair_at t.frames t.map v g)) in
      let index : x ≡ word_index (length s.map) v g = rw width in
      let inside = row_inside (length t.map) v u.passed.slot in
      let same : get_or t.map x 0 ≡ get_or s.map x 0 = i.ahead x (omega (arith, index)) in
      rw (← u.granule.to)
      (record {
        lengths = length-set t.map x y ∙ i.lengths;
        ahead = λ j h. get_or-set_other t.map x j y 0 (omega (arith, index)) ∙ i.ahead j (omega arith);
        count = ap suc i.count ∙ sym (differing_set s.map t.map x y i.lengths (omega (arith, inside, u.granule.below)) same (λ z. u.granule.word (same ∙ z)));
      })

  counts : (e : End At Numbers) → Holds (StepsCountedAt v s) 0 e → CountsChanges s e
  unfolding StepsCountedAt
  counts (ended k (at b t) r) h = sym (zero-add k) ∙ h.count

  -- the steps done are the map words that differ from the start
  pub single_steps_count : (n b : ℕ) → CountsChanges s (run (single_step c v r3) n (at b s))
  unfolding StepsCountedAt
  single_steps_count n b =
      counts (run (single_step c v r3) n (at b s))
      (kept (StepsCountedAt v s) (single_step c v r3) next n 0 (at b s) (record { lengths = refl; ahead = λ i h. refl; count = sym (differing_none s.map) }))

-- one granule's step changes one map word
pub one_differs : (n : Numbers) (c : RangeCall) (v b : ℕ) (s t : State) → v < 8 → granule_step n c v (at b s) ≡ took (at (b + granule_size) t)
    → differing s.map t.map ≡ 1
one_differs n c v b s t slot e =
    let u = granule_took n c v b s (at (b + granule_size) t) slot e in
    let to = u.to in
    let same : changed_at c v b s ≡ t = cc in
    let x = word_index (length s.map) v (granule_of b) in
    let y = word_made c (frame_in (pair_at s.frames s.map v (granule_of b))) in
    rw (← same)
    (differing_set s.map s.map x y refl (omega (arith, row_inside (length s.map) v slot, u.below)) refl u.word ∙ ap suc (differing_none s.map))
