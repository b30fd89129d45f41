-- In a state that keeps the invariant no step is refused for damage.
use mathlib.Core.Path.{◌≡◌, refl, ap, ◌∙◌}
use mathlib.Core.Logic.{◌≢◌}
use mathlib.Core.Bool.{Bool, true, false, cond}
use mathlib.Core.List.{List}
use Prim.Native.Nat.{ℕ, zero, suc, ◌<◌}
use native.Mathlib.Omega.{arith}
use lib.Dec.{ltb}
use lib.ListN.{length}
use Rattle.runs.specs.Run.{Step, took, refuses, refused, End, ended, one_more, onward, run}
use Rattle.runs.proofs.Runs.{count_of}
use Rattle.words.specs.MapWord.{map_word_of}
use Rattle.words.proofs.Booleans.{never}
use Rattle.tables.specs.Length.{width_of}
use Rattle.tables.specs.Row.{word_index, word_at}
use Rattle.pairs.specs.Pair.{granule_state, pair_at, granule_undamaged}
use Rattle.pairs.specs.declared.pairs.GranuleState.{GranuleState}
use Rattle.pairs.specs.declared.pairs.GranuleState.TheVariants as granule-state
use Rattle.commands.specs.State.{State}
use Rattle.granules.specs.Kind.{is_of, GranuleChange, leave_damaged, leave_other, write_bare, write_framed, bare, change_of}
use Rattle.granules.specs.Step.{Place, place, Refusal, is_damaged, not_done, written, step_from, table_step}
use Rattle.granules.specs.declared.kinds.Kind.{Kind}
use Rattle.granules.specs.declared.kinds.Kind.TheVariants.{Vacant, Private, Shared, Guarded}
use Rattle.granules.specs.declared.kinds.Operation.{Operation}
use Rattle.history.proofs.StateWords.{look, width_is}
use Rattle.history.proofs.WordsSound.{WordsSound}
use Rattle.history.proofs.SoundLaws.{pair_seen}
use Rattle.history.proofs.PassedTests.{granule_undamaged_lem, below_width}

-- a step refuses for damage only where its granule is damaged
bare_undamaged : (x : Bool) (m : Kind) → cond x (bare m) leave_other ≢ leave_damaged
bare_undamaged true Vacant e = never cc
bare_undamaged true Private e = never cc
bare_undamaged true Shared e = never cc
bare_undamaged true Guarded e = never cc
bare_undamaged false m e = never cc

framed_undamaged : (x : Bool) (f : ℕ) → cond x (write_framed f) leave_other ≢ leave_damaged
framed_undamaged true f e = never cc
framed_undamaged false f e = never cc

change_damaged : (o : Operation) (k : GranuleState) → granule_undamaged k ≡ true → change_of o k ≢ leave_damaged
unfolding change_of
change_damaged o granule-state.Vacant h e = bare_undamaged (is_of o.needs granule-state.Vacant) o.makes e
change_damaged o (granule-state.Frame b f) h e = framed_undamaged (is_of o.needs (granule-state.Frame b f)) f e
change_damaged o granule-state.Guarded h e = bare_undamaged (is_of o.needs granule-state.Guarded) o.makes e
change_damaged o granule-state.Damaged h e = never h

written_damaged : (k : Kind) (v i : ℕ) (map frames : List ℕ) (g : ℕ) (d : GranuleChange) → written k v i map frames g d ≡ refuses is_damaged → d ≡ leave_damaged
written_damaged k v i map frames g leave_damaged e = refl
written_damaged k v i map frames g leave_other e = never cc
written_damaged k v i map frames g (write_bare w) e = never cc
written_damaged k v i map frames g (write_framed f) e = never cc

refused_within : (x : Bool) (o : Step Place Refusal) → cond x o (refuses not_done) ≡ refuses is_damaged → (x ≡ true) × (o ≡ refuses is_damaged)
refused_within true o e = (refl, e)
refused_within false o e = never cc

-- a run that did nothing and was refused, was so at its first step
pub first_refused : (step : Place → Step Place Refusal) (n : ℕ) (p q : Place) (r : Refusal) → run step n p ≡ ended 0 q (refused r) → step p ≡ refuses r
first_refused step zero p q r e = never cc
first_refused step (suc n) p q r e = on (step p) refl e
  where
    more : (d : End Place Refusal) → one_more d ≡ ended 0 q (refused r) → ⊥
    more (ended k u x) h = let z : ◌≡◌ {A = ℕ} (suc k) 0 = ap count_of h in omega arith

    on : (o : Step Place Refusal) → step p ≡ o → onward (λ t. run step n t) p o ≡ ended 0 q (refused r) → step p ≡ refuses r
    on (took t) h x = absurd (more (run step n t) x)
    on (refuses x) h y = h ∙ cc

module _ {F W : ℕ} {s : State} (i : WordsSound F W s) (v : ℕ) (slot : v < 8) where
  pub step_undamaged : (o : Operation) (g : ℕ) → table_step o v (place s.map s.frames g) ≢ refuses is_damaged
  unfolding step_from look
  step_undamaged o g e =
      let k = granule_state s.frames v g (map_word_of (word_at s.map v g)) in
      let j = word_index (length s.map) v g in
      let p = refused_within (ltb g (width_of (length s.map))) (written o.makes v j s.map s.frames g (change_of o k)) e in
      let below = below_width i g p.0 in
      let seen : pair_at s.frames s.map v g ≡ k = pair_seen i.sized v g slot below ∙ rw (width_is i.sized) in
      change_damaged o k (rw (← seen) (granule_undamaged_lem i v g slot below)) (written_damaged o.makes v j s.map s.frames g (change_of o k) p.1)
