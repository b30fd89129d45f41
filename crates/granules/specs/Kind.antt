-- Document 01, "Guest calls", "One granule": the kind that a call needs, the kind that it makes, and what becomes of the frame.
use Rattle.std.specs.Prelude.{Bool, true, false, cond, not, ℕ}
use Rattle.words.specs.MapWord.{map_bits}
use Rattle.words.specs.declared.map_word.MapWord.{MapWord}
use Rattle.words.specs.declared.map_word.MapWord.TheVariants as map-word
use Rattle.words.specs.declared.frame_word.FrameWord.{FrameWord}
use Rattle.words.specs.declared.frame_word.FrameWord.TheVariants as frame-word
use Rattle.pairs.specs.declared.pairs.GranuleState.{GranuleState}
use Rattle.pairs.specs.declared.pairs.GranuleState.TheVariants as granule-state
use Rattle.granules.specs.declared.kinds.Kind.{Kind}
use Rattle.granules.specs.declared.kinds.Kind.TheVariants.{Vacant, Private, Shared, Guarded}
use Rattle.granules.specs.declared.kinds.Operation.{Operation}

abbrev pub operation : Kind → Kind → Operation
operation needs makes = record { needs = needs; makes = makes }

-- "share needs private and makes shared; unshare the reverse; guard map needs vacant, guard unmap needs guarded; relinquish needs private
-- (a shared granule is refused), leaves it vacant and its frame waiting"
abbrev pub sharing : Operation
sharing = operation Private Shared

abbrev pub unsharing : Operation
unsharing = operation Shared Private

abbrev pub guarding : Operation
guarding = operation Vacant Guarded

abbrev pub unguarding : Operation
unguarding = operation Guarded Vacant

abbrev pub relinquishing : Operation
relinquishing = operation Private Vacant

-- whether a granule is of a kind
abbrev pub is_of : Kind → GranuleState → Bool
is_of k granule-state.Damaged = false
is_of Vacant granule-state.Vacant = true
is_of Private granule-state.Vacant = false
is_of Shared granule-state.Vacant = false
is_of Guarded granule-state.Vacant = false
is_of Vacant (granule-state.Frame s f) = false
is_of Private (granule-state.Frame s f) = not s
is_of Shared (granule-state.Frame s f) = s
is_of Guarded (granule-state.Frame s f) = false
is_of Vacant granule-state.Guarded = false
is_of Private granule-state.Guarded = false
is_of Shared granule-state.Guarded = false
is_of Guarded granule-state.Guarded = true

-- the map word of a granule with frame f that becomes of a kind
abbrev pub word_with : Kind → ℕ → MapWord
word_with Vacant f = map-word.Vacant
word_with Private f = map-word.Frame false f
word_with Shared f = map-word.Frame true f
word_with Guarded f = map-word.Guarded

-- the word of a frame whose granule, g of slot v, becomes of a kind: one that keeps the frame owns it, one that gives it up leaves it waiting
abbrev pub frame_then : Kind → ℕ → ℕ → FrameWord
frame_then Vacant v g = frame-word.Waiting
frame_then Private v g = frame-word.Owned v false g
frame_then Shared v g = frame-word.Owned v true g
frame_then Guarded v g = frame-word.Waiting

-- what an operation has to write for a granule: nothing, since it is damaged, or is not of the kind that is needed; this map word, where
-- it has no frame; a map word and the word of this frame
pub data GranuleChange : Type 0 where
  leave_damaged : GranuleChange
  leave_other : GranuleChange
  write_bare : ℕ → GranuleChange
  write_framed : ℕ → GranuleChange

-- a granule without a frame becomes vacant or guarded; it can't become private or shared
abbrev pub bare : Kind → GranuleChange
bare Vacant = write_bare (map_bits map-word.Vacant)
bare Private = leave_other
bare Shared = leave_other
bare Guarded = write_bare (map_bits map-word.Guarded)

unfoldable pub change_of : Operation → GranuleState → GranuleChange
change_of o granule-state.Vacant = cond (is_of o.needs granule-state.Vacant) (bare o.makes) leave_other
change_of o (granule-state.Frame s f) = cond (is_of o.needs (granule-state.Frame s f)) (write_framed f) leave_other
change_of o granule-state.Guarded = cond (is_of o.needs granule-state.Guarded) (bare o.makes) leave_other
change_of o granule-state.Damaged = leave_damaged
