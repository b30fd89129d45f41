-- One record read where the slot's number says, the call decided by it, and one stored where the change alters it: that is the call.
use mathlib.Core.Path.{◌≡◌, refl, sym}
use mathlib.Core.Bool.{true, false, ◌&&◌}
use Prim.Native.Nat.{ℕ, ◌%◌, ◌<◌}
use native.Mathlib.Nat.{mod-eq_of_lt}
use native.Mathlib.Decide.{dec_lt}
use native.Mathlib.Omega.{arith}
use borrow.Author.Tests.{lt-ltb, ltb-true}
use lib.Dec.{ltb}
use lib.ListN.{get_or, set}
use Rattle.words.proofs.Booleans.{both_true}
use Rattle.records.specs.Monitor.{zero_guest, guest_of, with_guest}
use Rattle.records.specs.Change.{changed, alters, with_change}
use Rattle.records.specs.declared.guest.Guest.{Guest}
use Rattle.records.specs.declared.monitor.Monitor.{Monitor}
use Rattle.records.specs.declared.change.Change.{Change}
use Rattle.records.proofs.ChangeLaws.{beyond}
use Rattle.commands.specs.State.{State}
use Rattle.commands.specs.Command.{view, slot_number, Command, result_of, applied, performed}
use Rattle.commands.proofs.CommandLaws.{applying, any_record}

abbrev stored : Monitor → ℕ → Guest → Monitor
stored m v g = record { guests = set m.guests v g }

-- the record read of a slot below 8
read_here : (m : Monitor) (v : ℕ) (g : Guest) → g ≡ get_or m.guests (v % 8) zero_guest → v < 8 → g ≡ guest_of m v
unfolding guest_of
read_here m v g r h = rw (lt-ltb v 8 h) (rw (mod-eq_of_lt h) at r)

pub in_place : (k : Command) (s : State) (v : ℕ) (g : Guest) → v ≡ slot_number k.slot s.monitor → g ≡ get_or s.monitor.guests (v % 8) zero_guest
    → applied v s (result_of k (view s.frames s.map v g)) ≡ performed k s
in_place k s v g e r = go (dec_lt v 8)
  where
    go : Dec (v < 8) → applied v s (result_of k (view s.frames s.map v g)) ≡ performed k s
    go (yes h) = applying k s v g _ e (read_here s.monitor v g r h) refl
    go (no h) = applying k s v (guest_of s.monitor v) _ e refl (any_record s.frames s.map v g (guest_of s.monitor v) k (omega arith))

-- the records with it stored, and without
module _ (m : Monitor) (v : ℕ) (d : Change) (g : Guest) (r : g ≡ get_or m.guests (v % 8) zero_guest) where
  pub stored_in_place : (y : Guest) → ltb v 8 && alters d ≡ true → y ≡ changed d g → stored m (v % 8) y ≡ with_change m v d
  unfolding with_guest
  stored_in_place y h e =
      let p = both_true (ltb v 8) (alters d) h in
      let l = ltb-true v 8 p.0 in
      rw (p.1, p.0, mod-eq_of_lt l, e, read_here m v g r l)

pub kept_in_place : (m : Monitor) (v : ℕ) (d : Change) → ltb v 8 && alters d ≡ false → m ≡ with_change m v d
kept_in_place m v d h = go (dec_lt v 8)
  where
    go : Dec (v < 8) → m ≡ with_change m v d
    go (yes l) = let k : alters d ≡ false = rw (lt-ltb v 8 l) at h in rw k
    go (no n) = sym (beyond m v d (omega arith))
