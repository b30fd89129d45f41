-- What a call does to the record of its slot, as a value.
use Rattle.std.specs.Prelude.{Bool, true, false, cond, ℕ}
use Rattle.records.specs.declared.guest.Guest.{Guest}
use Rattle.records.specs.declared.monitor.Monitor.{Monitor}
use Rattle.records.specs.declared.change.FirmwareRegister.{FirmwareRegister}
use Rattle.records.specs.declared.change.FirmwareRegister.TheVariants as register
use Rattle.records.specs.declared.change.Change.{Change}
use Rattle.records.specs.declared.change.Change.TheVariants as change
use Rattle.records.specs.Monitor.{with_bitmaps, zero_guest, new_guest, mark_run, enroll, guest_of, with_guest}

abbrev pub bitmap_of : FirmwareRegister → Guest → ℕ
bitmap_of register.Std g = g.std
bitmap_of register.StdHyp g = g.std_hyp
bitmap_of register.VendorHyp g = g.vendor_hyp
bitmap_of register.Unknown g = 0

-- the record with this bitmap put in; nothing else changes
abbrev pub with_bitmap : FirmwareRegister → ℕ → Guest → Guest
with_bitmap register.Std x g = with_bitmaps x g.std_hyp g.vendor_hyp g
with_bitmap register.StdHyp x g = with_bitmaps g.std x g.vendor_hyp g
with_bitmap register.VendorHyp x g = with_bitmaps g.std g.std_hyp x g
with_bitmap register.Unknown x g = g

-- what a change makes of a record
abbrev pub changed : Change → Guest → Guest
changed change.Kept g = g
changed (change.Created legacy) g = new_guest legacy
changed change.Removed g = zero_guest
changed change.Run g = mark_run g
changed change.Enrolled g = enroll g
changed (change.Written r x) g = with_bitmap r x g

-- whether it alters a record at all
abbrev pub alters : Change → Bool
alters change.Kept = false
alters (change.Created legacy) = true
alters change.Removed = true
alters change.Run = true
alters change.Enrolled = true
alters (change.Written r x) = true

-- the state with the record of slot v changed: one record is put in where the change alters it
abbrev pub with_change : Monitor → ℕ → Change → Monitor
with_change m v d = cond (alters d) (with_guest m v (changed d (guest_of m v))) m
