-- The tests of a single step that come before any granule: they stay passed while granules change, so that a call makes them once.
use mathlib.Core.Path.{◌≡◌, refl, ap, fun_ext, ◌∙◌}
use mathlib.Core.Bool.{Bool, true, false, cond}
use mathlib.Core.List.{List, [], ◌∷◌, ◌++◌}
use mathlib.Core.Option.{Option, none, some}
use Prim.Native.Nat.{ℕ, ◌+◌, ◌-◌, ◌%◌, ◌<◌}
use native.Mathlib.Omega.{arith}
use borrow.Author.Tests.{ltb-true}
use lib.Dec.{eqb, ltb}
use lib.ListN.{length, get_or, length-set}
use Rattle.runs.specs.Run.{Step, took, gated, run}
use Rattle.runs.proofs.Gate.{gate}
use Rattle.words.specs.Granule.{granule_size, granule_of, is_base}
use Rattle.words.proofs.Booleans.{both_true}
use Rattle.tables.specs.Length.{width_of, lengths_hold}
use Rattle.tables.specs.Row.{word_index}
use Rattle.pairs.specs.Pair.{pair_at}
use Rattle.records.specs.Monitor.{guest_of}
use Rattle.commands.specs.State.{State}
use Rattle.commands.specs.Tests.{Tests, first_refusal}
use Rattle.answers.specs.declared.answer.Numbers.{Numbers}
use Rattle.commands.proofs.TestLaws.{all_pass}
use Rattle.claims.specs.SingleSteps.{RangeCall, share, unshare, range_guard_map, range_guard_unmap, error_of, registers_right, call_tests, granule_tests, frame_in, word_made, with_shared_byte, frames_made, changed_at, At, at, single_step}
use Rattle.claims.proofs.StepAgrees.{granule_refusal, granule_step}

-- the refusal before any granule
abbrev pub call_refusal : RangeCall → ℕ → ℕ → At → Option Numbers
call_refusal c v r3 (at b s) = first_refusal (call_tests c v r3 b s)

pub gated_append : (xs ys : Tests Numbers) (o : Step At Numbers) → gated (first_refusal (xs ++ ys)) o ≡ gated (first_refusal xs) (gated (first_refusal ys) o)
gated_append [] ys o = refl
gated_append (x ∷ xs) ys o = on (gated_append xs ys o) x.0
  where
    on : gated (first_refusal (xs ++ ys)) o ≡ gated (first_refusal xs) (gated (first_refusal ys) o) → (a : Bool)
        → gated (cond a (first_refusal (xs ++ ys)) (some x.1)) o ≡ gated (cond a (first_refusal xs) (some x.1)) (gated (first_refusal ys) o)
    on e true = e
    on e false = refl

-- the single step is the granule's step behind the tests before any granule
pub step_gated : (c : RangeCall) (v r3 : ℕ) (p : At) → single_step c v r3 p ≡ gate (call_refusal c v r3) (granule_step (error_of c) c v) p
unfolding single_step
step_gated c v r3 (at b s) = gated_append (call_tests c v r3 b s) (granule_tests (error_of c) c (ltb (granule_of b) (width_of (length s.map))) (pair_at s.frames s.map v (granule_of b))) (took (at (b + granule_size) (changed_at c v b s)))

pub steps_gated : (c : RangeCall) (v r3 n : ℕ) (p : At) → run (single_step c v r3) n p ≡ run (gate (call_refusal c v r3) (granule_step (error_of c) c v)) n p
steps_gated c v r3 n p = ap (λ (f : At → Step At Numbers). run f n p) (fun_ext (step_gated c v r3))

-- what passed tests say
base_right : (c : RangeCall) (b r3 : ℕ) → registers_right c b r3 ≡ true → is_base b ≡ true
base_right share b r3 h = (both_true (is_base b) (eqb r3 0) h).0
base_right unshare b r3 h = (both_true (is_base b) (eqb r3 0) h).0
base_right range_guard_map b r3 h = h
base_right range_guard_unmap b r3 h = h

pub record Passed (v b : ℕ) (s : State) : Type 0 where
  pub lengths : lengths_hold (length s.frames) (length s.map) ≡ true
  pub slot : v < 8
  pub base : is_base b ≡ true

pub call_passed : (c : RangeCall) (v r3 b : ℕ) (s : State) → call_refusal c v r3 (at b s) ≡ none → Passed v b s
call_passed c v r3 b s h =
    let p = all_pass (call_tests c v r3 b s) h in
    record { lengths = p.0; slot = ltb-true v 8 (both_true (ltb v 8) (guest_of s.monitor v).live p.1.0).0; base = base_right c b r3 p.1.1.1.0 }

-- a step changes nothing that the tests before any granule look at
frames_length : (c : RangeCall) (f : ℕ) (frames : List ℕ) → length (frames_made c f frames) ≡ length frames
frames_length share f frames = length-set frames f (with_shared_byte 1 (get_or frames f 0))
frames_length unshare f frames = length-set frames f (with_shared_byte 0 (get_or frames f 0))
frames_length range_guard_map f frames = refl
frames_length range_guard_unmap f frames = refl

next_base : (c : RangeCall) (b r3 : ℕ) → registers_right c (b + granule_size) r3 ≡ registers_right c b r3
next_base c b r3 = let z : (b + granule_size) % granule_size ≡ b % granule_size = omega arith in on c z
  where
    on : (c : RangeCall) → (b + granule_size) % granule_size ≡ b % granule_size → registers_right c (b + granule_size) r3 ≡ registers_right c b r3
    on share z = rw z
    on unshare z = rw z
    on range_guard_map z = rw z
    on range_guard_unmap z = rw z

same_tests : (c : RangeCall) (v r3 b : ℕ) (s : State) → call_refusal c v r3 (at (b + granule_size) (changed_at c v b s)) ≡ call_refusal c v r3 (at b s)
same_tests c v r3 b s =
    let f = frame_in (pair_at s.frames s.map v (granule_of b)) in
    rw (frames_length c f s.frames, length-set s.map (word_index (length s.map) v (granule_of b)) (word_made c f), next_base c b r3)

pub gated_passed : (q : Option Numbers) (o : Step At Numbers) (t : At) → gated q o ≡ took t → (q ≡ none) × (o ≡ took t)
gated_passed none o t e = (refl, e)
gated_passed (some r) o t e = (cc, cc)

pub stays : (c : RangeCall) (v r3 : ℕ) (p t : At) → call_refusal c v r3 p ≡ none → granule_step (error_of c) c v p ≡ took t → call_refusal c v r3 t ≡ none
stays c v r3 (at b s) t h e =
    let x = at (b + granule_size) (changed_at c v b s) in
    let to = (gated_passed (granule_refusal (error_of c) c v (at b s)) (took x) t e).1 in
    let same : x ≡ t = cc in
    rw (← same) (same_tests c v r3 b s ∙ h)
