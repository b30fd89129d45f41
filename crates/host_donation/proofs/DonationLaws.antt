-- What holds where the tests of a donation passed.
use mathlib.Core.Path.{◌≡◌}
use mathlib.Core.List.{List}
use Prim.Native.Nat.{ℕ, ◌+◌, ◌<◌, ◌^◌}
use native.Mathlib.Omega.{arith}
use borrow.Author.Tests.{ltb-true}
use lib.ListN.{length}
use Rattle.std.specs.Prelude.{Ok}
use Rattle.words.proofs.Booleans.{both_true}
use Rattle.tables.specs.Length.{frames_hold, width_of, map_holds}
use Rattle.tables.specs.Row.{word_index, bounds_of}
use Rattle.std.specs.declared.ops.Range.{Range}
use Rattle.tables.proofs.LengthLaws.{frames_at_most, width_between}
use Rattle.tables.proofs.RowLaws.{index_inside}
use Rattle.commands.specs.Tests.{first_refusal, Admission, refusal_by}
use Rattle.commands.specs.Command.{view, tests_of}
use Rattle.records.specs.declared.guest.Guest.{Guest}
use Rattle.records.proofs.MonitorLaws.{lived}
use Rattle.commands.proofs.TestLaws.{all_pass}
use Rattle.host_donation.specs.Calls.{donate_command}

-- the numbers of a donation that passed its tests: they are in range and have room in a word
pub record InRange (frames map : List ℕ) (v f g : ℕ) : Type 0 where
  pub slot : v < 8
  pub frame : f < length frames
  pub granule : g < width_of (length map)
  pub frame_fits : f < 2 ^ 16
  pub granule_fits : g < 2 ^ 16

pub donate_in_range : (v f g : ℕ) (frames map : List ℕ) (guest : Guest) (x : Admission) → refusal_by x ≡ first_refusal (tests_of (donate_command v f g) (view frames map v guest)) → x ≡ Ok tt
    → InRange frames map v f g
donate_in_range v f g frames map guest x t p =
    let passes = all_pass (tests_of (donate_command v f g) (view frames map v guest)) (rw (← t, p)) in
    let lengths = both_true (frames_hold (length frames)) (map_holds (length map)) passes.0 in
    let frame = ltb-true f (length frames) passes.1.1.0 in
    let granule = ltb-true g (width_of (length map)) passes.1.1.1.0 in
    record {
      slot = (lived v guest passes.1.0).0;
      frame = frame;
      granule = granule;
      frame_fits = omega (arith, frame, frames_at_most (length frames) lengths.0);
      granule_fits = omega (arith, granule, width_between (length map) lengths.1);
    }

-- the place of its map word, by the bounds of its row
pub record MapIndex (map : List ℕ) (v g i : ℕ) : Type 0 where
  pub is : i ≡ word_index (length map) v g
  pub inside : i < length map

pub donate_index : (v f g : ℕ) (frames map : List ℕ) (guest : Guest) (x : Admission) → refusal_by x ≡ first_refusal (tests_of (donate_command v f g) (view frames map v guest)) → x ≡ Ok tt
    → (r : Range ℕ) → r ≡ bounds_of (length map) v → MapIndex map v g (r.start + g)
donate_index v f g frames map guest x t p r e =
    let n = donate_in_range v f g frames map guest x t p in
    let at = index_inside map v g r e n.slot n.granule in
    record { is = at.0; inside = at.1 }
