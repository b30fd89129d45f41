-- The records that calls make are sound, and let their guests hold what they held. A sound record of a live guest is one that calls make.
use mathlib.Core.Path.{◌≡◌, refl, sym, ap, ◌∙◌}
use mathlib.Core.Bool.{Bool, true, false, cond}
use Prim.Native.Nat.{ℕ}
use native.Mathlib.Omega.{arith}
use borrow.Author.Tests.{leb-true}
use Rattle.words.proofs.Booleans.{never, both_true}
use Rattle.runs.specs.Run.{run}
use Rattle.pairs.specs.declared.pairs.GranuleState.{GranuleState}
use Rattle.pairs.specs.declared.pairs.GranuleState.TheVariants as granule-state
use Rattle.records.specs.Monitor.{zero_guest, new_guest, mark_run, enroll}
use Rattle.records.specs.declared.guest.Guest.{Guest}
use Rattle.functions.specs.declared.numbers.Function.TheVariants.{Unknown}
use Rattle.records.specs.Change.{with_bitmap}
use Rattle.host_registers.specs.Registers.{within_limit}
use Rattle.records.specs.declared.change.FirmwareRegister.{FirmwareRegister}
use Rattle.records.specs.declared.change.FirmwareRegister.TheVariants.{Std, StdHyp, VendorHyp, Unknown}
use Rattle.history.specs.Sound.{guest_as, SoundRecord, may_hold}

-- the record of no guest is sound
pub zero_sound : SoundRecord zero_guest
zero_sound = record { dead = λ e. refl; live = λ e. never e; limit = refl; enrolled = λ e. never e; legacy = λ e. never e }

pub new_sound : (legacy : Bool) → SoundRecord (new_guest legacy)
new_sound true = record { dead = λ e. never (sym e); live = λ e. refl; limit = refl; enrolled = λ e. refl; legacy = λ e. refl }
new_sound false = record { dead = λ e. never (sym e); live = λ e. refl; limit = refl; enrolled = λ e. never e; legacy = λ e. never e }

-- a guest with a guarded granule, legacy or not, has enrolled and run
pub guarded_flags : (g : Guest) → may_hold g granule-state.Guarded ≡ true → (g.enrolled ≡ true) × (g.run ≡ true)
guarded_flags g h = both_true g.enrolled g.run h

-- a live guest with other flags or bitmaps
pub run_sound : (g : Guest) → SoundRecord g → g.live ≡ true → SoundRecord (mark_run g)
run_sound g k live =
    record { dead = λ e. never (sym e ∙ live); live = λ e. ap mark_run (k.live live); limit = k.limit; enrolled = λ e. refl; legacy = k.legacy }

pub run_holds : (g : Guest) (k : GranuleState) → may_hold g k ≡ true → may_hold (mark_run g) k ≡ true
run_holds g granule-state.Vacant h = h
run_holds g (granule-state.Frame true f) h = refl
run_holds g (granule-state.Frame false f) h = h
run_holds g granule-state.Guarded h = rw (guarded_flags g h).0
run_holds g granule-state.Damaged h = h

-- the flags of a record that keeps them
pub record SameFlags (g h : Guest) : Type 0 where
  pub live : h.live ≡ g.live
  pub run : h.run ≡ g.run
  pub enrolled : h.enrolled ≡ g.enrolled

pub bitmap_flags : (r : FirmwareRegister) (x : ℕ) (g : Guest) → SameFlags g (with_bitmap r x g)
bitmap_flags Std x g = record { live = refl; run = refl; enrolled = refl }
bitmap_flags StdHyp x g = record { live = refl; run = refl; enrolled = refl }
bitmap_flags VendorHyp x g = record { live = refl; run = refl; enrolled = refl }
bitmap_flags Unknown x g = record { live = refl; run = refl; enrolled = refl }

pub flags_hold : (g h : Guest) → SameFlags g h → (k : GranuleState) → may_hold g k ≡ true → may_hold h k ≡ true
flags_hold g h e granule-state.Vacant q = q
flags_hold g h e (granule-state.Frame true f) q = e.run ∙ q
flags_hold g h e (granule-state.Frame false f) q = e.live ∙ q
flags_hold g h e granule-state.Guarded q = rw (e.enrolled, e.run) q
flags_hold g h e granule-state.Damaged q = q

-- STD and STD_HYP can be written only as create sets them
pub bitmap_sound : (r : FirmwareRegister) (x : ℕ) (g : Guest) → SoundRecord g → g.live ≡ true → within_limit r x ≡ true → SoundRecord (with_bitmap r x g)
bitmap_sound Std x g k live h =
    let zero : x ≡ 0 = omega (arith, leb-true x 0 h) in
    let same = ap (with_bitmap Std 0) (k.live live) in
    record { dead = λ q. never (sym q ∙ live); live = λ q. rw zero same; limit = k.limit; enrolled = k.enrolled; legacy = k.legacy }
bitmap_sound StdHyp x g k live h =
    let zero : x ≡ 0 = omega (arith, leb-true x 0 h) in
    let same = ap (with_bitmap StdHyp 0) (k.live live) in
    record { dead = λ q. never (sym q ∙ live); live = λ q. rw zero same; limit = k.limit; enrolled = k.enrolled; legacy = k.legacy }
bitmap_sound VendorHyp x g k live h =
    let same = ap (with_bitmap VendorHyp x) (k.live live) in
    record { dead = λ q. never (sym q ∙ live); live = λ q. same; limit = h; enrolled = k.enrolled; legacy = k.legacy }
bitmap_sound Unknown x g k live h = k

pub enroll_sound : (g : Guest) → SoundRecord g → g.live ≡ true → g.run ≡ true → SoundRecord (enroll g)
enroll_sound g k live has_run =
    record { dead = λ e. never (sym e ∙ live); live = λ e. ap enroll (k.live live); limit = k.limit; enrolled = λ e. rw has_run; legacy = λ e. refl }

pub enroll_holds : (g : Guest) (k : GranuleState) → may_hold g k ≡ true → may_hold (enroll g) k ≡ true
enroll_holds g granule-state.Vacant h = h
enroll_holds g (granule-state.Frame true f) h = h
enroll_holds g (granule-state.Frame false f) h = h
enroll_holds g granule-state.Guarded h = (guarded_flags g h).1
enroll_holds g granule-state.Damaged h = h

-- a new guest of either kind that has this bitmap, and then has run or not, and has enrolled or not
abbrev pub written : Bool → ℕ → Guest
written legacy x = with_bitmap VendorHyp x (new_guest legacy)

abbrev pub started : Bool → ℕ → Bool → Guest
started legacy x a = cond a (mark_run (written legacy x)) (written legacy x)

abbrev pub joined : Bool → ℕ → Bool → Bool → Guest
joined legacy x a b = cond b (enroll (started legacy x a)) (started legacy x a)

-- a legacy guest has enrolled since it was created
pub joined_since : (legacy : Bool) → legacy ≡ true → (x : ℕ) (a : Bool) → joined legacy x a true ≡ started legacy x a
joined_since true e x true = refl
joined_since true e x false = refl
joined_since false e x a = never e

joined_is : (legacy : Bool) (x : ℕ) (a b : Bool) → (legacy ≡ true → b ≡ true) → joined legacy x a b ≡ guest_as legacy a b x
joined_is legacy x true true k = refl
joined_is legacy x false true k = refl
joined_is true x a false k = never (k refl)
joined_is false x true false k = refl
joined_is false x false false k = refl

-- a live guest is one of these
pub record_is : (g : Guest) → g.live ≡ true → SoundRecord g → joined g.legacy g.vendor_hyp g.run g.enrolled ≡ g
record_is g live k = joined_is g.legacy g.vendor_hyp g.run g.enrolled k.legacy ∙ sym (k.live live)
