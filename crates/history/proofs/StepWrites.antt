-- What a step that is taken has written: the granule's map word, and the word of the frame that it names, if any.
use mathlib.Core.Path.{◌≡◌, refl, subst}
use mathlib.Core.Logic.{◌≢◌}
use mathlib.Core.Bool.{Bool, true, false, cond}
use mathlib.Core.List.{List}
use Prim.Native.Nat.{ℕ, suc, ◌<◌}
use borrow.Author.Tests.{ltb-true}
use lib.Dec.{ltb}
use lib.ListN.{length, set}
use Rattle.words.proofs.Booleans.{never}
use Rattle.runs.specs.Run.{took}
use Rattle.words.specs.MapWord.{map_bits, map_word_of}
use Rattle.words.specs.FrameWord.{frame_bits}
use Rattle.tables.specs.Length.{width_of}
use Rattle.tables.specs.Row.{word_index, word_at}
use Rattle.pairs.specs.Pair.{granule_state}
use Rattle.pairs.specs.declared.pairs.GranuleState.{GranuleState}
use Rattle.pairs.specs.declared.pairs.GranuleState.TheVariants as granule-state
use Rattle.pairs.proofs.Found.{map_word_by}
use Rattle.granules.specs.Kind.{word_with, frame_then, GranuleChange, leave_damaged, leave_other, write_bare, write_framed, change_of, is_of, bare}
use Rattle.granules.specs.Comparison.{has_frame}
use Rattle.granules.specs.Step.{Place, place, written, step_from, table_step}
use Rattle.granules.specs.declared.kinds.Operation.{Operation}
use Rattle.granules.specs.declared.kinds.Kind.{Kind}
use Rattle.granules.specs.declared.kinds.Kind.TheVariants.{Vacant, Private, Shared, Guarded}
use Rattle.granules.proofs.Lent.{taken}
use Rattle.granules.proofs.ChangeLaws.{with_frame}
use Rattle.history.proofs.NamingPairs.{NamesNone}

-- a granule without a frame gets a word without one
pub record WithoutFrame (o : Operation) (k : GranuleState) (w : ℕ) : Type 0 where
  pub before : NamesNone (map_word_by k)
  pub undamaged : k ≢ granule-state.Damaged
  pub word : w ≡ map_bits (word_with o.makes 0)
  pub after : NamesNone (word_with o.makes 0)

bare_kind : (m : Kind) (w : ℕ) → write_bare w ≡ bare m → (w ≡ map_bits (word_with m 0)) × NamesNone (word_with m 0)
bare_kind Vacant w e = (cc, tt)
bare_kind Private w e = never cc
bare_kind Shared w e = never cc
bare_kind Guarded w e = (cc, tt)

bare_if : (x : Bool) (m : Kind) (w : ℕ) → write_bare w ≡ cond x (bare m) leave_other → write_bare w ≡ bare m
bare_if true m w e = e
bare_if false m w e = never cc

frame_if : (x : Bool) (f w : ℕ) → write_bare w ≡ cond x (write_framed f) leave_other → ⊥
frame_if true f w e = never cc
frame_if false f w e = never cc

pub without_frame : (o : Operation) (k : GranuleState) (w : ℕ) → write_bare w ≡ change_of o k → WithoutFrame o k w
unfolding change_of
without_frame o granule-state.Vacant w e =
    let p = bare_kind o.makes w (bare_if (is_of o.needs granule-state.Vacant) o.makes w e) in
    record { before = tt; undamaged = λ q. never cc; word = p.0; after = p.1 }
without_frame o (granule-state.Frame b f) w e = absurd (frame_if (is_of o.needs (granule-state.Frame b f)) f w e)
without_frame o granule-state.Guarded w e =
    let p = bare_kind o.makes w (bare_if (is_of o.needs granule-state.Guarded) o.makes w e) in
    record { before = tt; undamaged = λ q. never cc; word = p.0; after = p.1 }
without_frame o granule-state.Damaged w e = never cc

-- a granule with a frame is not of a kind without one
framed_if : (x : Bool) (f k : ℕ) → write_framed f ≡ cond x (write_framed k) leave_other → x ≡ true
framed_if true f k e = refl
framed_if false f k e = never cc

pub framed : (o : Operation) (b : Bool) (f : ℕ) → write_framed f ≡ change_of o (granule-state.Frame b f) → has_frame o.needs ≡ true
unfolding change_of
framed o b f e = on o.needs (framed_if (is_of o.needs (granule-state.Frame b f)) f f e)
  where
    on : (k : Kind) → is_of k (granule-state.Frame b f) ≡ true → has_frame k ≡ true
    on Vacant h = h
    on Private h = refl
    on Shared h = refl
    on Guarded h = h

module _ (o : Operation) (v : ℕ) (map frames : List ℕ) (g : ℕ) (P : Place → Type 0) where
  abbrev i : ℕ
  i = word_index (length map) v g

  abbrev change : GranuleChange
  change = change_of o (granule_state frames v g (map_word_of (word_at map v g)))

  module _ (bare : (w : ℕ) → g < width_of (length map) → write_bare w ≡ change → P (place (set map i w) frames (suc g)))
      (with_frame : (f : ℕ) → g < width_of (length map) → write_framed f ≡ change
      → P (place (set map i (map_bits (word_with o.makes f))) (set frames f (frame_bits (frame_then o.makes v g))) (suc g))) where
    by_change : g < width_of (length map) → (d : GranuleChange) → d ≡ change → (t : Place) → written o.makes v i map frames g d ≡ took t → P t
    by_change h leave_damaged e t q = never cc
    by_change h leave_other e t q = never cc
    by_change h (write_bare w) e t q = let p : place (set map i w) frames (suc g) ≡ t = cc in subst P p (bare w h e)
    by_change h (write_framed f) e t q =
        let p : place (set map i (map_bits (word_with o.makes f))) (set frames f (frame_bits (frame_then o.makes v g))) (suc g) ≡ t = cc in
        subst P p (with_frame f h e)

    pub step_wrote : (t : Place) → table_step o v (place map frames g) ≡ took t → P t
    unfolding step_from
    step_wrote t e =
        let w = width_of (length map) in
        let p = taken (ltb g w) (written o.makes v i map frames g change) t e in
        by_change (ltb-true g w p.0) change refl t p.1
