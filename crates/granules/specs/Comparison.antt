-- What the single step decides by: the granule compared with one of the kind that is needed, and why the granule is left where they differ.
use Rattle.std.specs.Prelude.{Bool, true, false, cond, ℕ, Option, Some, None, Result, Ok, Err}
use Rattle.pairs.specs.Pair.{granule_undamaged}
use Rattle.pairs.specs.declared.pairs.GranuleState.{GranuleState}
use Rattle.pairs.specs.declared.pairs.GranuleState.TheVariants as granule-state
use Rattle.granules.specs.Kind.{is_of}
use Rattle.granules.specs.declared.kinds.Kind.{Kind}
use Rattle.granules.specs.declared.kinds.Kind.TheVariants.{Vacant, Private, Shared, Guarded}
use Rattle.granules.specs.declared.step.StepError.{StepError}
use Rattle.granules.specs.declared.step.StepError.TheVariants.{NotDone, Damaged}

-- the frame that a granule holds, where it holds one
abbrev pub held_by : GranuleState → Option ℕ
held_by granule-state.Vacant = None
held_by (granule-state.Frame s f) = Some f
held_by granule-state.Guarded = None
held_by granule-state.Damaged = None

-- why a step leaves a granule that is not of the kind asked for
abbrev pub refusal_of : GranuleState → StepError
refusal_of s = cond (granule_undamaged s) NotDone Damaged

-- a granule compared with one of a kind: what it holds, or why it is left
abbrev pub compared : Kind → GranuleState → Result (Option ℕ) StepError
compared k s = cond (is_of k s) (Ok (held_by s)) (Err (refusal_of s))

-- whether a granule of a kind has a frame, and whether that is shared; and whether one without a frame is guarded
abbrev pub has_frame : Kind → Bool
has_frame Vacant = false
has_frame Private = true
has_frame Shared = true
has_frame Guarded = false

abbrev pub is_shared : Kind → Bool
is_shared Vacant = false
is_shared Private = false
is_shared Shared = true
is_shared Guarded = false

abbrev pub is_guarded : Kind → Bool
is_guarded Vacant = false
is_guarded Private = false
is_guarded Shared = false
is_guarded Guarded = true
