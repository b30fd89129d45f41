-- The single step at an address, past the tests before any granule, is the step of the work on granules.
use mathlib.Core.Path.{◌≡◌, refl, sym, ap, ◌∙◌}
use mathlib.Core.Bool.{Bool, true, false, cond}
use mathlib.Core.List.{List}
use mathlib.Core.Option.{Option}
use Prim.Native.Nat.{ℕ, suc, ◌+◌, ◌*◌, ◌<◌, ◌^◌}
use native.Mathlib.Omega.{arith}
use borrow.Author.Tests.{lt-ltb}
use lib.Dec.{ltb}
use lib.ListN.{length, get_or, set}
use Rattle.words.proofs.Booleans.{never}
use Rattle.runs.specs.Run.{Step, took, refuses, gated, run}
use Rattle.runs.proofs.Alike.{map_step, map_end, alike}
use Rattle.words.specs.Granule.{granule_size, granule_of, address_of}
use Rattle.words.specs.MapWord.{map_bits, map_word_of}
use Rattle.words.specs.FrameWord.{sharing_byte, frame_bits, frame_word_of}
use Rattle.words.specs.declared.map_word.MapWord.TheVariants as map-word
use Rattle.words.specs.declared.frame_word.FrameWord.TheVariants as frame-word
use Rattle.words.proofs.GranuleLaws.{granule_address}
use Rattle.words.proofs.FrameWordLaws.{frame_encode_decode, frame_fits, sharing_bit}
use Rattle.tables.specs.Length.{width_of}
use Rattle.tables.specs.Row.{word_index, word_at}
use Rattle.pairs.specs.Pair.{granule_state, pair_at}
use Rattle.pairs.specs.declared.pairs.GranuleState.{GranuleState}
use Rattle.pairs.specs.declared.pairs.GranuleState.TheVariants as granule-state
use Rattle.pairs.proofs.Found.{granule_says, granule_names}
use Rattle.answers.specs.Answer.{verdict_with}
use Rattle.commands.specs.State.{state}
use Rattle.commands.specs.Tests.{first_refusal}
use Rattle.records.specs.declared.monitor.Monitor.{Monitor}
use Rattle.answers.specs.declared.answer.Numbers.{Numbers}
use Rattle.granules.specs.Kind.{sharing, unsharing, guarding, unguarding, change_of}
use Rattle.granules.specs.Step.{Place, place, Refusal, is_damaged, not_done, written, step_from, table_step}
use Rattle.granules.specs.declared.kinds.Operation.{Operation}
use Rattle.claims.specs.SingleSteps.{RangeCall, share, unshare, range_guard_map, range_guard_unmap, granule_tests, frame_in, word_made, with_shared_byte, frames_made, changed_at, At, at}

abbrev pub operation_of : RangeCall → Operation
operation_of share = sharing
operation_of unshare = unsharing
operation_of range_guard_map = guarding
operation_of range_guard_unmap = unguarding

-- the step behind the tests of the granule alone; n is the answer where no other is named
abbrev pub granule_refusal : Numbers → RangeCall → ℕ → At → Option Numbers
granule_refusal n c v (at b s) =
    first_refusal (granule_tests n c (ltb (granule_of b) (width_of (length s.map))) (pair_at s.frames s.map v (granule_of b)))

abbrev pub granule_step : Numbers → RangeCall → ℕ → At → Step At Numbers
granule_step n c v (at b s) = gated (granule_refusal n c v (at b s)) (took (at (b + granule_size) (changed_at c v b s)))

-- a frame word with its sharing byte made anew is the word built for that sharing
rebuilt : (v g w : ℕ) (s t : Bool) → frame_word_of w ≡ frame-word.Owned v s g → with_shared_byte (sharing_byte t) w ≡ frame_bits (frame-word.Owned v t g)
unfolding frame_bits
rebuilt v g w s t e =
    let back : frame_bits (frame_word_of w) ≡ w = frame_encode_decode w (λ d. never cc) in
    let word : (v + 1) * 2 ^ 24 + (sharing_byte s * 2 ^ 16 + g) ≡ w = rw e at back in
    let fits = rw e at (frame_fits w) in
    let room : g < 2 ^ 16 = fits.1 in
    omega (arith, sharing_bit s)

-- a place in the table as an address with the state, and a refusal's numbers
abbrev pub located : Monitor → Place → At
located m (place map frames g) = at (address_of g) (state frames map m)

abbrev pub numbers_by : Numbers → Refusal → Numbers
numbers_by n is_damaged = verdict_with 6 0
numbers_by n not_done = n

-- what is made of a granule in the state k, whose map word is the i-th
abbrev made : Numbers → RangeCall → Monitor → List ℕ → List ℕ → ℕ → ℕ → GranuleState → Step At Numbers
made n c m frames map i b k =
    gated (first_refusal (granule_tests n c true k))
    (took (at (b + granule_size) (state (frames_made c (frame_in k) frames) (set map i (word_made c (frame_in k))) m)))

module _ (n : Numbers) (v : ℕ) (m : Monitor) (map frames : List ℕ) (g i : ℕ) where
  next : address_of g + granule_size ≡ address_of (suc g)
  next = omega arith

  like_made : (c : RangeCall) (k : GranuleState) → ((s : Bool) (f : ℕ) → k ≡ granule-state.Frame s f → frame_word_of (get_or frames f 0) ≡ frame-word.Owned v s g)
      → made n c m frames map i (address_of g) k ≡ map_step (located m) (numbers_by n) (written (operation_of c).makes v i map frames g (change_of (operation_of c) k))
  unfolding change_of map_bits
  like_made share granule-state.Vacant o = refl
  like_made share (granule-state.Frame true f) o = refl
  like_made share (granule-state.Frame false f) o = rw (next, rebuilt v g (get_or frames f 0) false true (o false f refl))
  like_made share granule-state.Guarded o = refl
  like_made share granule-state.Damaged o = refl
  like_made unshare granule-state.Vacant o = refl
  like_made unshare (granule-state.Frame true f) o = rw (next, rebuilt v g (get_or frames f 0) true false (o true f refl))
  like_made unshare (granule-state.Frame false f) o = refl
  like_made unshare granule-state.Guarded o = refl
  like_made unshare granule-state.Damaged o = refl
  like_made range_guard_map granule-state.Vacant o = rw next
  like_made range_guard_map (granule-state.Frame s f) o = refl
  like_made range_guard_map granule-state.Guarded o = refl
  like_made range_guard_map granule-state.Damaged o = refl
  like_made range_guard_unmap granule-state.Vacant o = refl
  like_made range_guard_unmap (granule-state.Frame s f) o = refl
  like_made range_guard_unmap granule-state.Guarded o = rw next
  like_made range_guard_unmap granule-state.Damaged o = refl

-- within the table the pair test is the one of the granule's word
pub pair_inside : (frames map : List ℕ) (v g : ℕ) → v < 8 → ltb g (width_of (length map)) ≡ true → pair_at frames map v g ≡ granule_state frames v g (map_word_of (word_at map v g))
unfolding pair_at
pair_inside frames map v g hv h = rw (lt-ltb v 8 hv, h)

-- a frame that a granule was found with names it back
owner : (frames : List ℕ) (v g w : ℕ) (s : Bool) (f : ℕ) → granule_state frames v g (map_word_of w) ≡ granule-state.Frame s f → frame_word_of (get_or frames f 0) ≡ frame-word.Owned v s g
owner frames v g w s f e =
    let says : map_word_of w ≡ map-word.Frame s f = granule_says frames v g (map_word_of w) (granule-state.Frame s f) (sym e) (λ q. never cc) in
    (granule_names frames v g s f (sym e ∙ ap (granule_state frames v g) says)).1

module _ (n : Numbers) (c : RangeCall) (v : ℕ) (hv : v < 8) (m : Monitor) where
  pub like : (p : Place) → granule_step n c v (located m p) ≡ map_step (located m) (numbers_by n) (table_step (operation_of c) v p)
  unfolding step_from
  like (place map frames g) = rw (granule_address g) (on (ltb g (width_of (length map))) refl)
    where
      on : (t : Bool) → ltb g (width_of (length map)) ≡ t
          → gated (first_refusal (granule_tests n c t (pair_at frames map v g)))
          (took
          (at (address_of g + granule_size)
          (state (frames_made c (frame_in (pair_at frames map v g)) frames) (set map (word_index (length map) v g) (word_made c (frame_in (pair_at frames map v g)))) m)))
          ≡ map_step (located m) (numbers_by n)
          (cond t
          (written (operation_of c).makes v (word_index (length map) v g) map frames g
          (change_of (operation_of c) (granule_state frames v g (map_word_of (word_at map v g)))))
          (refuses not_done))
      on true e =
          rw (pair_inside frames map v g hv e)
          (like_made n v m map frames g (word_index (length map) v g) c (granule_state frames v g (map_word_of (word_at map v g))) (λ s f q. owner frames v g (word_at map v g) s f q))
      on false e = refl

  -- granules from g on, at their addresses, and in the table
  pub agrees : (k : ℕ) (p : Place) → run (granule_step n c v) k (located m p) ≡ map_end (located m) (numbers_by n) (run (table_step (operation_of c) v) k p)
  agrees k p = alike (located m) (numbers_by n) (λ q. Unit {0}) (table_step (operation_of c) v) (granule_step n c v) (λ s t i e. tt) (λ s i. like s) k p tt
