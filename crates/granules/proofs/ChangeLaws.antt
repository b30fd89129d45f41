-- A change that writes a frame comes of a granule that names it, and is named back: so the frame is in the table.
use mathlib.Core.Path.{◌≡◌, sym, ◌∙◌}
use mathlib.Core.Bool.{Bool, true, false, cond}
use mathlib.Core.List.{List}
use Prim.Native.Nat.{ℕ, ◌<◌}
use lib.ListN.{length, get_or}
use Rattle.words.proofs.Booleans.{never}
use Rattle.words.specs.MapWord.{map_word_of}
use Rattle.words.specs.FrameWord.{frame_word_of}
use Rattle.words.specs.declared.map_word.MapWord.TheVariants as map-word
use Rattle.words.specs.declared.frame_word.FrameWord.TheVariants as frame-word
use Rattle.pairs.specs.Pair.{granule_state}
use Rattle.pairs.specs.declared.pairs.GranuleState.{GranuleState}
use Rattle.pairs.specs.declared.pairs.GranuleState.TheVariants as granule-state
use Rattle.pairs.proofs.Found.{granule_says, granule_names}
use Rattle.granules.specs.Kind.{is_of, leave_other, write_framed, bare, change_of}
use Rattle.granules.specs.declared.kinds.Kind.{Kind}
use Rattle.granules.specs.declared.kinds.Kind.TheVariants.{Vacant, Private, Shared, Guarded}
use Rattle.granules.specs.declared.kinds.Operation.{Operation}

no_frame : (m : Kind) (f : ℕ) → write_framed f ≡ bare m → ⊥
no_frame Vacant f e = never cc
no_frame Private f e = never cc
no_frame Shared f e = never cc
no_frame Guarded f e = never cc

not_bare : (b : Bool) (m : Kind) (f : ℕ) → write_framed f ≡ cond b (bare m) leave_other → ⊥
not_bare true m f e = no_frame m f e
not_bare false m f e = never cc

same_frame : (b : Bool) (f h : ℕ) → write_framed f ≡ cond b (write_framed h) leave_other → f ≡ h
same_frame true f h e = cc
same_frame false f h e = cc

-- the frame that is written is the granule's
pub with_frame : (o : Operation) (k : GranuleState) (f : ℕ) → write_framed f ≡ change_of o k → (s : Bool) × (k ≡ granule-state.Frame s f)
unfolding change_of
with_frame o granule-state.Vacant f e = absurd (not_bare (is_of o.needs granule-state.Vacant) o.makes f e)
with_frame o (granule-state.Frame s h) f e = (s, rw (same_frame (is_of o.needs (granule-state.Frame s h)) f h e))
with_frame o granule-state.Guarded f e = absurd (not_bare (is_of o.needs granule-state.Guarded) o.makes f e)
with_frame o granule-state.Damaged f e = never cc

-- what holds of a granule that has frame f
pub record FramePair (frames : List ℕ) (v g w : ℕ) (s : Bool) (f : ℕ) : Type 0 where
  pub word : map_word_of w ≡ map-word.Frame s f
  pub owner : frame_word_of (get_or frames f 0) ≡ frame-word.Owned v s g
  pub inside : f < length frames

pub frame_pair : (frames : List ℕ) (v g w : ℕ) (s : Bool) (f : ℕ) → granule-state.Frame s f ≡ granule_state frames v g (map_word_of w) → FramePair frames v g w s f
frame_pair frames v g w s f e =
    let says : map_word_of w ≡ map-word.Frame s f = granule_says frames v g (map_word_of w) (granule-state.Frame s f) e (λ q. never cc) in
    let names = granule_names frames v g s f (e ∙ rw says) in
    record { word = says; owner = names.1; inside = names.0 }

pub writable : (o : Operation) (frames : List ℕ) (v g w : ℕ) (k : GranuleState) → k ≡ granule_state frames v g (map_word_of w) → (f : ℕ) → write_framed f ≡ change_of o k
    → (s : Bool) × FramePair frames v g w s f
writable o frames v g w k e f d = let p = with_frame o k f d in (p.0, frame_pair frames v g w p.0 f (sym p.1 ∙ e))
