-- Lengths as computed cases.
use mathlib.Core.Path.{◌≡◌, refl}
use mathlib.Core.Bool.{true, false}
use mathlib.Core.List.{[], ◌∷◌, map}
use Rattle.tables.specs.Length.{frames_hold, map_holds}

pub frame_lengths : map frames_hold (0 ∷ 1 ∷ 16384 ∷ 16385 ∷ []) ≡ false ∷ true ∷ true ∷ false ∷ []
unfolding frames_hold
frame_lengths = refl

pub map_lengths : map map_holds (0 ∷ 7 ∷ 8 ∷ 12 ∷ 32768 ∷ 32769 ∷ 32776 ∷ []) ≡ false ∷ false ∷ true ∷ false ∷ true ∷ false ∷ false ∷ []
unfolding map_holds
map_lengths = refl
