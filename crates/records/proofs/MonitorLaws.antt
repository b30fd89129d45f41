-- What is read of the state after a record was put in, and of the fresh state.
use mathlib.Core.Path.{◌≡◌, refl}
use mathlib.Core.Logic.{◌≢◌}
use mathlib.Core.Bool.{Bool, true, false, ◌&&◌}
use Prim.Native.Nat.{ℕ, ◌<◌}
use native.Mathlib.Decide.{dec_lt}
use native.Mathlib.Omega.{arith}
use borrow.Author.Tests.{lt-ltb, le-ltb, ltb-true}
use lib.ListN.{length, length-set, get_or-replicate}
use lib.Seq.{get_or-set_same, get_or-set_other, set-get_or, set-set}
use lib.Dec.{ltb}
use Rattle.words.proofs.Booleans.{never, and_false, both_true}
use Rattle.records.specs.Monitor.{zero_guest, fresh, guest_of, with_guest, live_in}
use Rattle.records.specs.declared.guest.Guest.{Guest}
use Rattle.records.specs.declared.monitor.Monitor.{Monitor}

pub guest_put : (m : Monitor) (v : ℕ) (g : Guest) → v < 8 → v < length m.guests → guest_of (with_guest m v g) v ≡ g
unfolding guest_of with_guest
guest_put m v g h l = rw (lt-ltb v 8 h) (get_or-set_same m.guests v g zero_guest l)

pub guest_other : (m : Monitor) (v u : ℕ) (g : Guest) → u ≢ v → guest_of (with_guest m v g) u ≡ guest_of m u
unfolding guest_of with_guest
guest_other m v u g n = go (dec_lt v 8)
  where
    go : Dec (v < 8) → guest_of (with_guest m v g) u ≡ guest_of m u
    go (yes h) = rw (lt-ltb v 8 h, get_or-set_other m.guests v u g zero_guest n)
    go (no h) = rw (le-ltb v 8 (omega arith))

pub guests_kept : (m : Monitor) (v : ℕ) (g : Guest) → length (with_guest m v g).guests ≡ length m.guests
unfolding with_guest
guests_kept m v g = go (dec_lt v 8)
  where
    go : Dec (v < 8) → length (with_guest m v g).guests ≡ length m.guests
    go (yes h) = rw (lt-ltb v 8 h) (length-set m.guests v g)
    go (no h) = rw (le-ltb v 8 (omega arith))

pub guest_fresh : (v : ℕ) → guest_of fresh v ≡ zero_guest
unfolding guest_of
guest_fresh v = go (dec_lt v 8)
  where
    go : Dec (v < 8) → guest_of fresh v ≡ zero_guest
    go (yes h) = rw (lt-ltb v 8 h) (get_or-replicate {A = Guest} 8 v zero_guest zero_guest h)
    go (no h) = rw (le-ltb v 8 (omega arith))

-- a live guest is in one of the eight slots
pub live_slot : (m : Monitor) (v : ℕ) → (guest_of m v).live ≡ true → v < 8
unfolding guest_of
live_slot m v e = go (dec_lt v 8)
  where
    go : Dec (v < 8) → v < 8
    go (yes h) = h
    go (no h) = let dead : (guest_of m v).live ≡ false = rw (le-ltb v 8 (omega arith)) in never cc

-- a record put in where it is already
pub put_own : (m : Monitor) (v : ℕ) → with_guest m v (guest_of m v) ≡ m
unfolding guest_of with_guest
put_own m v = go (dec_lt v 8)
  where
    go : Dec (v < 8) → with_guest m v (guest_of m v) ≡ m
    go (yes h) = rw (lt-ltb v 8 h, set-get_or m.guests v zero_guest)
    go (no h) = rw (le-ltb v 8 (omega arith))

pub put_again : (m : Monitor) (v : ℕ) (a b : Guest) → with_guest (with_guest m v a) v b ≡ with_guest m v b
unfolding with_guest
put_again m v a b = go (dec_lt v 8)
  where
    go : Dec (v < 8) → with_guest (with_guest m v a) v b ≡ with_guest m v b
    go (yes h) = rw (lt-ltb v 8 h, set-set m.guests v a b)
    go (no h) = rw (le-ltb v 8 (omega arith))

-- the record of slot v says by itself whether a guest lives there
pub lives : (m : Monitor) (v : ℕ) → live_in v (guest_of m v) ≡ (guest_of m v).live
lives m v = on (guest_of m v).live refl
  where
    on : (a : Bool) → (guest_of m v).live ≡ a → ltb v 8 && a ≡ a
    on true e = rw (lt-ltb v 8 (live_slot m v e))
    on false e = and_false (ltb v 8)

-- a record that a guest in slot v has
pub lived : (v : ℕ) (g : Guest) → live_in v g ≡ true → (v < 8) × (g.live ≡ true)
lived v g h = let p = both_true (ltb v 8) g.live h in (ltb-true v 8 p.0, p.1)
