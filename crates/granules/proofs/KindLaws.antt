-- What an operation has to write, by the comparison of the granule with one of the kind that is needed.
use mathlib.Core.Path.{◌≡◌, refl, sym}
use mathlib.Core.Bool.{Bool, true, false, cond}
use mathlib.Core.List.{List}
use Prim.Native.Nat.{ℕ}
use Rattle.std.specs.Prelude.{Option, Some, None, Result, Ok, Err}
use Rattle.words.specs.MapWord.{map_bits, bare_word, is_bare}
use Rattle.words.specs.declared.map_word.MapWord.{MapWord}
use Rattle.words.specs.declared.map_word.MapWord.TheVariants as map-word
use Rattle.words.specs.declared.frame_word.FrameWord.TheVariants as frame-word
use Rattle.words.proofs.Booleans.{never}
use Rattle.pairs.specs.Pair.{granule_state, frame_names_back, granule_undamaged}
use Rattle.pairs.specs.Comparison.{frame_compared}
use Rattle.pairs.specs.declared.pairs.GranuleState.{GranuleState}
use Rattle.pairs.specs.declared.pairs.GranuleState.TheVariants as granule-state
use Rattle.granules.specs.Kind.{is_of, word_with, frame_then, GranuleChange, leave_damaged, leave_other, write_bare, write_framed, bare, change_of}
use Rattle.granules.specs.Comparison.{held_by, refusal_of, compared, has_frame, is_shared, is_guarded}
use Rattle.granules.specs.declared.kinds.Kind.{Kind}
use Rattle.granules.specs.declared.kinds.Kind.TheVariants.{Vacant, Private, Shared, Guarded}
use Rattle.granules.specs.declared.kinds.Operation.{Operation}
use Rattle.granules.specs.declared.step.StepError.{StepError}
use Rattle.granules.specs.declared.step.StepError.TheVariants.{NotDone, Damaged}

-- a granule that was told to have a frame, or to be none that has one of the kind asked for
abbrev pub framed : GranuleState → Option ℕ → Result (Option ℕ) StepError
framed s (Some f) = Ok (Some f)
framed s None = Err (refusal_of s)

-- a kind with a frame: private or shared
pub framed_compared : (k : Kind) (s : GranuleState) → has_frame k ≡ true → (r : Option ℕ) → r ≡ frame_compared (is_shared k) s → framed s r ≡ compared k s
framed_compared k s h r e = rw e (go k s h)
  where
    go : (k : Kind) (s : GranuleState) → has_frame k ≡ true → framed s (frame_compared (is_shared k) s) ≡ compared k s
    go Vacant s h = never h
    go Private granule-state.Vacant h = refl
    go Private (granule-state.Frame true f) h = refl
    go Private (granule-state.Frame false f) h = refl
    go Private granule-state.Guarded h = refl
    go Private granule-state.Damaged h = refl
    go Shared granule-state.Vacant h = refl
    go Shared (granule-state.Frame true f) h = refl
    go Shared (granule-state.Frame false f) h = refl
    go Shared granule-state.Guarded h = refl
    go Shared granule-state.Damaged h = refl
    go Guarded s h = never h

-- a kind without a frame: the map word says it
abbrev pub bare_by : GranuleState → Bool → Result (Option ℕ) StepError
bare_by s b = cond b (Ok None) (Err (refusal_of s))

pub bare_compared : (frames : List ℕ) (v g : ℕ) (k : Kind) (d : MapWord) → has_frame k ≡ false → (b : Bool) → is_bare (is_guarded k) d ≡ b
    → bare_by (granule_state frames v g d) b ≡ compared k (granule_state frames v g d)
unfolding granule_state
bare_compared frames v g k d h b e = rw (← e) (go d)
  where
    other : (k : Kind) → has_frame k ≡ false → (named s : Bool) (f : ℕ) → let t = cond named (granule-state.Frame s f) granule-state.Damaged in Err (refusal_of t) ≡ compared k t
    other Vacant h true s f = refl
    other Private h true s f = never (sym h)
    other Shared h true s f = never (sym h)
    other Guarded h true s f = refl
    other k h false s f = refl

    vacant : (k : Kind) → has_frame k ≡ false → bare_by granule-state.Vacant (is_bare (is_guarded k) map-word.Vacant) ≡ compared k granule-state.Vacant
    vacant Vacant h = refl
    vacant Private h = never (sym h)
    vacant Shared h = never (sym h)
    vacant Guarded h = refl

    guarded : (k : Kind) → has_frame k ≡ false → bare_by granule-state.Guarded (is_guarded k) ≡ compared k granule-state.Guarded
    guarded Vacant h = refl
    guarded Private h = never (sym h)
    guarded Shared h = never (sym h)
    guarded Guarded h = refl

    go : (d : MapWord) → bare_by (granule_state frames v g d) (is_bare (is_guarded k) d) ≡ compared k (granule_state frames v g d)
    go map-word.Vacant = vacant k h
    go (map-word.Frame s f) = other k h (frame_names_back frames v s g f) s f
    go map-word.Guarded = guarded k h
    go map-word.Damaged = refl

-- a granule that is of a kind and has a frame
pub frame_of : (k : Kind) (s : GranuleState) (f : ℕ) → Ok (Some f) ≡ compared k s → s ≡ granule-state.Frame (is_shared k) f
frame_of k s f e = go s (is_of k s) refl e
  where
    sharing : (k : Kind) (t : Bool) → is_of k (granule-state.Frame t f) ≡ true → t ≡ is_shared k
    sharing Vacant t h = never h
    sharing Private true h = never h
    sharing Private false h = refl
    sharing Shared t h = h
    sharing Guarded t h = never h

    go : (s : GranuleState) (b : Bool) → is_of k s ≡ b → Ok (Some f) ≡ cond b (Ok (held_by s)) (Err (refusal_of s)) → s ≡ granule-state.Frame (is_shared k) f
    go granule-state.Vacant true q e = cc
    go (granule-state.Frame t h) true q e = let same : f ≡ h = cc in rw (same, sharing k t (rw same q))
    go granule-state.Guarded true q e = cc
    go granule-state.Damaged true q e = cc
    go s false q e = cc

abbrev pub change_by : Kind → Result (Option ℕ) StepError → GranuleChange
change_by makes (Ok None) = bare makes
change_by makes (Ok (Some f)) = write_framed f
change_by makes (Err NotDone) = leave_other
change_by makes (Err Damaged) = leave_damaged

pub change_compared : (o : Operation) (s : GranuleState) → change_of o s ≡ change_by o.makes (compared o.needs s)
unfolding change_of
change_compared o s = go s
  where
    of_kind : (s : GranuleState) → granule_undamaged s ≡ true → (b : Bool)
        → cond b (change_by o.makes (Ok (held_by s))) leave_other ≡ change_by o.makes (cond b (Ok (held_by s)) (Err (refusal_of s)))
    of_kind s h true = refl
    of_kind s h false = rw h

    go : (s : GranuleState) → change_of o s ≡ change_by o.makes (compared o.needs s)
    go granule-state.Vacant = of_kind granule-state.Vacant refl (is_of o.needs granule-state.Vacant)
    go (granule-state.Frame s f) = of_kind (granule-state.Frame s f) refl (is_of o.needs (granule-state.Frame s f))
    go granule-state.Guarded = of_kind granule-state.Guarded refl (is_of o.needs granule-state.Guarded)
    go granule-state.Damaged = refl

-- the words that a kind makes
pub word_made_lem : (k : Kind) (f : ℕ) → word_with k f ≡ cond (has_frame k) (map-word.Frame (is_shared k) f) (bare_word (is_guarded k))
word_made_lem Vacant f = refl
word_made_lem Private f = refl
word_made_lem Shared f = refl
word_made_lem Guarded f = refl

pub owner_made : (k : Kind) (v g : ℕ) → frame_then k v g ≡ cond (has_frame k) (frame-word.Owned v (is_shared k) g) frame-word.Waiting
owner_made Vacant v g = refl
owner_made Private v g = refl
owner_made Shared v g = refl
owner_made Guarded v g = refl

pub bare_made : (k : Kind) → bare k ≡ cond (has_frame k) leave_other (write_bare (map_bits (bare_word (is_guarded k))))
bare_made Vacant = refl
bare_made Private = refl
bare_made Shared = refl
bare_made Guarded = refl
