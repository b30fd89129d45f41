-- The free slot is the place of the first record that is not live, or 8.
use mathlib.Core.Path.{◌≡◌, refl, sym, ◌∙◌}
use mathlib.Core.Bool.{Bool, true, false, cond, not}
use mathlib.Core.List.{List, [], ◌∷◌}
use Prim.Native.Nat.{ℕ, suc, ◌+◌, ◌<◌}
use native.Mathlib.Nat.{zero-add}
use native.Mathlib.Omega.{arith}
use borrow.Author.Tests.{lt-ltb, ltb-false}
use lib.ListN.{length, get_or}
use lib.Dec.{ltb}
use Rattle.std.specs.Prelude.{Some, None}
use Rattle.std.specs.Option.{unwrap_or}
use Rattle.std.specs.List.{position_or_len}
use Rattle.std.proofs.lemmas.List.Sums.{prefix_len-le-length}
use Rattle.records.specs.Monitor.{zero_guest, guest_of, free_from, free_slot}
use Rattle.records.specs.declared.guest.Guest.{Guest}
use Rattle.records.specs.declared.monitor.Monitor.{Monitor}

-- the records from slot v on
from_here : (m : Monitor) (v : ℕ) (gs : List Guest) → ((i : ℕ) → i < length gs → guest_of m (v + i) ≡ get_or gs i zero_guest)
    → free_from m v (length gs) ≡ v + position_or_len (λ g. not g.live) gs
unfolding free_from
from_here m v [] e = omega arith
from_here m v (g ∷ gs) e =
    let same : v + 0 ≡ v = omega arith in
    let here : guest_of m v ≡ g = rw same at (e 0 (omega arith)) in
    let later : free_from m (suc v) (length gs) ≡ suc v + position_or_len (λ g. not g.live) gs
    = from_here m (suc v) gs (λ i h. let next : suc v + i ≡ v + suc i = omega arith in rw next (e (suc i) (omega arith))) in
    rw here (go g.live later)
  where
    go : (l : Bool) → free_from m (suc v) (length gs) ≡ suc v + position_or_len (λ g. not g.live) gs
        → cond l (free_from m (suc v) (length gs)) v ≡ v + cond (not (not l)) (1 + position_or_len (λ g. not g.live) gs) 0
    go true later = omega (arith, later)
    go false later = omega arith

pub lowest_free : (m : Monitor) → length m.guests ≡ 8
    → unwrap_or (cond (ltb (position_or_len (λ g. not g.live) m.guests) (length m.guests)) (Some (position_or_len (λ g. not g.live) m.guests)) None) 8
    ≡ free_slot m
unfolding guest_of
lowest_free m e = go (ltb place (length m.guests)) refl
  where
    place : ℕ
    place = position_or_len (λ g. not g.live) m.guests

    found : free_slot m ≡ place
    found =
        let whole : free_slot m ≡ 0 + place = rw e at (from_here m 0 m.guests (λ i h. rw (zero-add i, lt-ltb i 8 (omega (arith, e))))) in
        whole ∙ zero-add place

    go : (b : Bool) → ltb place (length m.guests) ≡ b → unwrap_or (cond b (Some place) None) 8 ≡ free_slot m
    go true q = sym found
    go false q = omega (arith, e, found, ltb-false place (length m.guests) q, prefix_len-le-length (λ g. not (not g.live)) m.guests)
