-- The exact invariant: what holds of tables and records in every history. Document 01, "Tables": "Histories start from fresh tables, and
-- only these calls write them."
use Rattle.std.specs.Prelude.{◌≡◌, Bool, true, false, ◌&&◌, ◌||◌, ℕ, ◌<◌, length}
use Rattle.tables.specs.Length.{width_of, lengths_hold}
use Rattle.pairs.specs.Pair.{pair_at, pair_of, frame_undamaged}
use Rattle.pairs.specs.declared.pairs.GranuleState.{GranuleState}
use Rattle.pairs.specs.declared.pairs.GranuleState.TheVariants.{Vacant, Frame, Guarded, Damaged}
use Rattle.records.specs.Monitor.{with_flags, zero_guest, new_guest, guest_of}
use Rattle.commands.specs.State.{State}
use Rattle.records.specs.declared.guest.Guest.{Guest}
use Rattle.records.specs.Change.{with_bitmap}
use Rattle.host_registers.specs.Registers.{within_limit}
use Rattle.records.specs.declared.change.FirmwareRegister.TheVariants.{VendorHyp}

-- a live guest's record as create sets it, but for its kind, two flags and VENDOR_HYP
abbrev pub guest_as : Bool → Bool → Bool → ℕ → Guest
guest_as legacy run enrolled x = with_flags true legacy run enrolled (with_bitmap VendorHyp x (new_guest legacy))

-- "A dead slot's record is all zero in any history"; nothing else of a live one differs from what create sets; VENDOR_HYP is within its
-- limit; only a guest that has run can have enrolled, but one that knows no ranges "counts as enrolled from creation"
pub record SoundRecord (g : Guest) : Type 0 where
  pub dead : g.live ≡ false → g ≡ zero_guest
  pub live : g.live ≡ true → g ≡ guest_as g.legacy g.run g.enrolled g.vendor_hyp
  pub limit : within_limit VendorHyp g.vendor_hyp ≡ true
  pub enrolled : g.enrolled ≡ true → g.run || g.legacy ≡ true
  pub legacy : g.legacy ≡ true → g.enrolled ≡ true

-- what a granule of a guest with this record can hold: a private frame if it is live, a shared one if it has run, guarded MMIO if it has
-- enrolled and run. So a dead slot's row is vacant.
abbrev pub may_hold : Guest → GranuleState → Bool
may_hold g Vacant = true
may_hold g (Frame false f) = g.live
may_hold g (Frame true f) = g.run
may_hold g Guarded = g.enrolled && g.run
may_hold g Damaged = false

-- Both pair tests find no damage anywhere, so each word that names a partner is named back.
pub record Sound (s : State) : Type 0 where
  pub lengths : lengths_hold (length s.frames) (length s.map) ≡ true
  pub slots : length s.monitor.guests ≡ 8
  pub records : (v : ℕ) → v < 8 → SoundRecord (guest_of s.monitor v)
  pub granules : (v g : ℕ) → v < 8 → g < width_of (length s.map) → may_hold (guest_of s.monitor v) (pair_at s.frames s.map v g) ≡ true
  pub frames : (f : ℕ) → f < length s.frames → frame_undamaged (pair_of s.frames s.map f) ≡ true
