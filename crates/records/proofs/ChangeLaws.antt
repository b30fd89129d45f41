-- What is read of the records after a change.
use mathlib.Core.Path.{◌≡◌, refl, sym}
use mathlib.Core.Logic.{◌≢◌}
use mathlib.Core.Bool.{Bool, true, false, cond}
use Prim.Native.Nat.{ℕ, ◌≤◌}
use borrow.Author.Tests.{le-ltb}
use lib.ListN.{length}
use Rattle.records.specs.Monitor.{guest_of, with_guest}
use Rattle.records.specs.Change.{changed, alters, with_change}
use Rattle.records.specs.declared.guest.Guest.{Guest}
use Rattle.records.specs.declared.monitor.Monitor.{Monitor}
use Rattle.records.specs.declared.change.Change.{Change}
use Rattle.records.specs.declared.change.Change.TheVariants as change
use Rattle.records.proofs.MonitorLaws.{guest_other, guests_kept, put_own}

-- what holds of the records as found, and with one put in, holds of the records changed
pub change_either : (P : Monitor → Type 0) (m : Monitor) (v : ℕ) (d : Change) → P m → ((g : Guest) → P (with_guest m v g)) → P (with_change m v d)
change_either P m v d same put = on (alters d)
  where
    on : (b : Bool) → P (cond b (with_guest m v (changed d (guest_of m v))) m)
    on true = put (changed d (guest_of m v))
    on false = same

-- for every change, the changed record is put in: `alters` says whether one has to be stored, and no more
pub change_is_put : (m : Monitor) (v : ℕ) (d : Change) → with_change m v d ≡ with_guest m v (changed d (guest_of m v))
change_is_put m v change.Kept = sym (put_own m v)
change_is_put m v (change.Created legacy) = refl
change_is_put m v change.Removed = refl
change_is_put m v change.Run = refl
change_is_put m v change.Enrolled = refl
change_is_put m v (change.Written r x) = refl

-- a slot above 7 has no record to change
pub beyond : (m : Monitor) (v : ℕ) (d : Change) → 8 ≤ v → with_change m v d ≡ m
unfolding with_guest
beyond m v d h = change_either (λ x. x ≡ m) m v d refl (λ g. rw (le-ltb v 8 h))

pub change_other : (m : Monitor) (v : ℕ) (d : Change) (u : ℕ) → u ≢ v → guest_of (with_change m v d) u ≡ guest_of m u
change_other m v d u n = change_either (λ x. guest_of x u ≡ guest_of m u) m v d refl (λ g. guest_other m v u g n)

pub change_count : (m : Monitor) (v : ℕ) (d : Change) → length (with_change m v d).guests ≡ length m.guests
change_count m v d = change_either (λ x. length x.guests ≡ length m.guests) m v d refl (λ g. guests_kept m v g)
