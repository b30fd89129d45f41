-- The lowest free slot is 8 exactly if all eight are live, and slot 8 has no row that could be damaged.
use mathlib.Core.Path.{◌≡◌, refl, sym, ◌∙◌}
use mathlib.Core.Bool.{Bool, true, false, cond}
use mathlib.Core.List.{List, [], ◌∷◌}
use Prim.Native.Nat.{ℕ, zero, suc, ◌+◌, ◌-◌, ◌<◌, ◌≤◌}
use native.Mathlib.Decide.{ℕ_discrete}
use native.Mathlib.Omega.{arith}
use borrow.Author.Tests.{ltb-false}
use lib.Dec.{ltb}
use lib.ListN.{length}
use Rattle.tables.specs.Length.{lengths_hold}
use Rattle.tables.specs.Row.{bounds_of, row_of}
use Rattle.records.specs.Monitor.{guest_of, free_from, free_slot}
use Rattle.answers.specs.Answer.{numbers_of}
use Rattle.commands.specs.State.{State}
use Rattle.commands.specs.Tests.{first_refusal}
use Rattle.commands.specs.Command.{host_success, change_record, unless_refused, effected}
use Rattle.records.specs.declared.change.Change.TheVariants.{Created}
use Rattle.records.specs.declared.guest.Guest.{Guest}
use Rattle.records.specs.declared.monitor.Monitor.{Monitor}
use Rattle.answers.specs.declared.answer.Answer.TheVariants.{BadLength, Damaged, NoFreeSlot}
use Rattle.rows.specs.WholeRow.{row_vacant}
use Rattle.host_guests.specs.Calls.{create_of}
use Rattle.claims.specs.HostCalls.{SevenExactly}

module _ (m : Monitor) where
  free_at_most : (n v : ℕ) → free_from m v n ≤ v + n
  unfolding free_from
  free_at_most zero v = omega arith
  free_at_most (suc n) v = on (guest_of m v).live (free_at_most n (suc v))
    where
      on : (b : Bool) → free_from m (suc v) n ≤ suc v + n → cond b (free_from m (suc v) n) v ≤ v + suc n
      on true h = omega arith
      on false h = omega arith

  -- no slot of n from v on is free: all are live
  none_free : (n v : ℕ) → free_from m v n ≡ v + n → (u : ℕ) → v ≤ u → u < v + n → (guest_of m u).live ≡ true
  unfolding free_from
  none_free zero v e u l h = absurd (omega arith)
  none_free (suc n) v e u l h = on (guest_of m v).live refl e (ℕ_discrete u v) (λ q. none_free n (suc v) q u)
    where
      on : (b : Bool) → (guest_of m v).live ≡ b → cond b (free_from m (suc v) n) v ≡ v + suc n → Dec (u ≡ v)
          → (free_from m (suc v) n ≡ suc v + n → suc v ≤ u → u < suc v + n → (guest_of m u).live ≡ true) → (guest_of m u).live ≡ true
      on true live q (yes p) more = rw p live
      on true live q (no p) more = more (omega arith) (omega arith) (omega arith)
      on false live q d more = absurd (omega arith)

  all_taken : (n v : ℕ) → ((u : ℕ) → v ≤ u → u < v + n → (guest_of m u).live ≡ true) → free_from m v n ≡ v + n
  unfolding free_from
  all_taken zero v h = omega arith
  all_taken (suc n) v h =
      let rest = all_taken n (suc v) (λ u l k. h u (omega arith) (omega arith)) in
      rw (h v (omega arith) (omega arith)) (omega (arith, rest))

no_row : (map : List ℕ) (v : ℕ) → v ≡ 8 → row_vacant (row_of map v) ≡ true
unfolding row_vacant bounds_of
no_row map v e = rw e

-- what verdict 7 says of the three tests of create
seven_by : (k a b c : Bool) (v : ℕ) (s : State) → (numbers_of (effected v s (unless_refused (first_refusal ((a, BadLength) ∷ (b, Damaged) ∷ (c, NoFreeSlot) ∷ [])) (change_record (Created k) (host_success v)))).answer).verdict ≡ 7
    → (a ≡ true) × (c ≡ false)
unfolding numbers_of
seven_by k false b c v s e = let z : ◌≡◌ {A = ℕ} 1 7 = e in absurd (omega arith)
seven_by k true false c v s e = let z : ◌≡◌ {A = ℕ} 6 7 = e in absurd (omega arith)
seven_by k true true true v s e = let z : ◌≡◌ {A = ℕ} 0 7 = e in absurd (omega arith)
seven_by k true true false v s e = (refl, refl)

pub seven_exactly : (legacy : Bool) (s : State) → SevenExactly legacy s
unfolding create_of numbers_of
seven_exactly legacy s =
    let m = s.monitor in
    let v = free_slot m in
    let lengths = lengths_hold (length s.frames) (length s.map) in
    record {
      only = λ e.
          let p = seven_by legacy lengths (row_vacant (row_of s.map v)) (ltb v 8) v s e in
          let eight : free_from m 0 8 ≡ 0 + 8 = omega (arith, free_at_most m 8 0, ltb-false v 8 p.1) in
          (p.0, λ u h. none_free m 8 0 eight u (omega arith) (omega arith));
      always = λ l live.
          let eight : free_slot m ≡ 8 = all_taken m 8 0 (λ u k h. live u (omega arith)) in
          rw (l, no_row s.map (free_slot m) eight, eight);
    }

-- where the slots before v are live, and v is above 7
none_left : (m : Monitor) (v n : ℕ) → n ≡ 0 → free_from m v n ≡ v
unfolding free_from
none_left m v n e = rw e

pub all_live_lem : (m : Monitor) (v : ℕ) → free_slot m ≡ free_from m v (8 - v) → 8 ≤ v → v ≡ free_slot m
all_live_lem m v e h = sym (e ∙ none_left m v (8 - v) (omega arith))

-- where the slots before v are live, and slot v is looked at
from_here : (m : Monitor) (v : ℕ) → v < 8 → free_from m v (8 - v) ≡ cond (guest_of m v).live (free_from m (v + 1) (8 - (v + 1))) v
unfolding free_from
from_here m v h =
    let n : 8 - v ≡ suc (7 - v) = omega arith in
    let k : 8 - (v + 1) ≡ 7 - v = omega arith in
    let s : suc v ≡ v + 1 = omega arith in
    rw (n, k, s)

module _ (m : Monitor) (v : ℕ) (e : free_slot m ≡ free_from m v (8 - v)) (h : v < 8) (g : Guest) (s : g ≡ guest_of m v) where
  slot_here : free_slot m ≡ cond g.live (free_from m (v + 1) (8 - (v + 1))) v
  slot_here = rw s (e ∙ from_here m v h)

  pub free_here : g.live ≡ false → v ≡ free_slot m
  free_here f = sym (rw f at slot_here)

  pub free_later : g.live ≡ true → free_slot m ≡ free_from m (v + 1) (8 - (v + 1))
  free_later l = rw l at slot_here
