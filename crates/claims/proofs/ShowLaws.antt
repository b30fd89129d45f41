-- A show that passes its tests is of one of eight slots, and W is at least 1.
use mathlib.Core.Path.{◌≡◌, refl}
use mathlib.Core.Bool.{Bool, true, false}
use mathlib.Core.List.{List, [], ◌∷◌}
use Prim.Native.Nat.{ℕ, ◌≤◌}
use native.Mathlib.Omega.{arith}
use lib.ListN.{length}
use Rattle.tables.specs.Length.{map_holds}
use Rattle.tables.specs.Row.{row_of}
use Rattle.tables.proofs.LengthLaws.{width_between}
use Rattle.tables.proofs.RowLaws.{row_length}
use Rattle.records.specs.Monitor.{guest_of, live_in}
use Rattle.answers.specs.Answer.{numbers_of}
use Rattle.commands.specs.Tests.{first_refusal}
use Rattle.records.specs.declared.monitor.Monitor.{Monitor}
use Rattle.answers.specs.declared.answer.Answer.TheVariants.{BadLength, NoGuest}
use Rattle.records.proofs.MonitorLaws.{lived}
use Rattle.host_guests.specs.Calls.{Shown, shown_unless, show_of}
use Rattle.claims.specs.HostCalls.{RowOrEmpty}

-- by the two tests of show
shown_by_lem : (a b : Bool) (row : List ℕ) (x : Shown) → x ≡ shown_unless (first_refusal ((a, BadLength) ∷ (b, NoGuest) ∷ [])) row
    → ((numbers_of x.answer).verdict ≡ 0 → (a ≡ true) × (b ≡ true) × (x.part ≡ row)) × (((numbers_of x.answer).verdict ≡ 0 → ⊥) → x.part ≡ [])
unfolding numbers_of
shown_by_lem false b row x e = rw e (λ h. let z : ◌≡◌ {A = ℕ} 1 0 = h in absurd (omega arith), λ n. refl)
shown_by_lem true false row x e = rw e (λ h. let z : ◌≡◌ {A = ℕ} 2 0 = h in absurd (omega arith), λ n. refl)
shown_by_lem true true row x e = rw e (λ h. (refl, refl, refl), λ n. absurd (n refl))

pub row_or_empty : (v : ℕ) (m : Monitor) (map : List ℕ) → RowOrEmpty v m map
unfolding show_of
row_or_empty v m map =
    let p = shown_by_lem (map_holds (length map)) (live_in v (guest_of m v)) (row_of map v) (show_of v m map) refl in
    record {
      row = λ h.
          let q = p.0 h in
          let long : 1 ≤ length (row_of map v) = omega (arith, row_length map v (lived v (guest_of m v) q.1).0, width_between (length map) q.0) in
          (q.2, rw q.2 long);
      empty = p.1;
    }
