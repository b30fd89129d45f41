-- How a granule compares with one that is private or shared.
use Rattle.std.specs.Prelude.{Bool, cond, ℕ, Option, Some, None}
use Rattle.std.specs.Bool.{beq}
use Rattle.pairs.specs.declared.pairs.GranuleState.{GranuleState}
use Rattle.pairs.specs.declared.pairs.GranuleState.TheVariants as granule-state

-- the frame of a granule that is private or shared, as told
abbrev pub frame_compared : Bool → GranuleState → Option ℕ
frame_compared s granule-state.Vacant = None
frame_compared s (granule-state.Frame t f) = cond (beq s t) (Some f) None
frame_compared s granule-state.Guarded = None
frame_compared s granule-state.Damaged = None
