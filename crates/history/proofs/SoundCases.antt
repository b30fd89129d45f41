-- Worked records: those that are sound and those that are not, and what a granule of such a guest can hold.
use mathlib.Core.Path.{◌≡◌, refl, sym, ap}
use mathlib.Core.Bool.{Bool, true, false}
use mathlib.Core.List.{List, [], ◌∷◌, map}
use Prim.Native.Nat.{ℕ}
use Rattle.words.proofs.Booleans.{never}
use Rattle.pairs.specs.declared.pairs.GranuleState.TheVariants.{Vacant, Frame, Guarded, Damaged}
use Rattle.records.specs.declared.guest.Guest.{Guest}
use Rattle.history.specs.Sound.{SoundRecord, may_hold}

-- a record with these flags and VENDOR_HYP
abbrev guest : Bool → Bool → Bool → Bool → ℕ → Guest
guest l k r e x = record { live = l; legacy = k; run = r; enrolled = e; std = 0; std_hyp = 0; vendor_hyp = x }

-- a dead slot
pub dead_sound : SoundRecord (guest false false false false 0)
dead_sound = record { dead = λ h. refl; live = λ h. never h; limit = refl; enrolled = λ h. never h; legacy = λ h. never h }

-- a guest with ranges: created, run, enrolled
pub ranged_created_sound : SoundRecord (guest true false false false 1)
ranged_created_sound = record { dead = λ h. never (sym h); live = λ h. refl; limit = refl; enrolled = λ h. never h; legacy = λ h. never h }

pub ranged_run_sound : SoundRecord (guest true false true false 0)
ranged_run_sound = record { dead = λ h. never (sym h); live = λ h. refl; limit = refl; enrolled = λ h. never h; legacy = λ h. never h }

pub ranged_enrolled_sound : SoundRecord (guest true false true true 1)
ranged_enrolled_sound = record { dead = λ h. never (sym h); live = λ h. refl; limit = refl; enrolled = λ h. refl; legacy = λ h. never h }

-- a legacy guest: created, run
pub legacy_created_sound : SoundRecord (guest true true false true 1)
legacy_created_sound = record { dead = λ h. never (sym h); live = λ h. refl; limit = refl; enrolled = λ h. refl; legacy = λ h. refl }

pub legacy_run_sound : SoundRecord (guest true true true true 0)
legacy_run_sound = record { dead = λ h. never (sym h); live = λ h. refl; limit = refl; enrolled = λ h. refl; legacy = λ h. refl }

-- not a guest with ranges that has enrolled and was never run, no legacy guest that has not enrolled, run or not, and no kind of a dead slot
pub enrolled_first_unsound : SoundRecord (guest true false false true 1) → ⊥
enrolled_first_unsound r = never (r.enrolled refl)

pub legacy_unsound : SoundRecord (guest true true false false 1) → ⊥
legacy_unsound r = never (r.legacy refl)

pub legacy_then_run_unsound : SoundRecord (guest true true true false 1) → ⊥
legacy_then_run_unsound r = never (r.legacy refl)

pub dead_legacy_unsound : SoundRecord (guest false true false true 0) → ⊥
dead_legacy_unsound r = never (sym (ap (λ g. g.legacy) (r.dead refl)))

-- vacant, private, shared, guarded, damaged
abbrev held : Guest → List Bool
held g = map (may_hold g) (Vacant ∷ Frame false 0 ∷ Frame true 0 ∷ Guarded ∷ Damaged ∷ [])

pub held_granules :
    map held
    (guest false false false false 0 ∷ guest true false false false 1 ∷ guest true false true false 1 ∷ guest true false true true 1
    ∷ guest true true false true 1 ∷ guest true true true true 1 ∷ [])
    ≡ (true ∷ false ∷ false ∷ false ∷ false ∷ [])
    ∷ (true ∷ true ∷ false ∷ false ∷ false ∷ [])
    ∷ (true ∷ true ∷ true ∷ false ∷ false ∷ [])
    ∷ (true ∷ true ∷ true ∷ true ∷ false ∷ [])
    ∷ (true ∷ true ∷ false ∷ false ∷ false ∷ [])
    ∷ (true ∷ true ∷ true ∷ true ∷ false ∷ [])
    ∷ []
held_granules = refl
