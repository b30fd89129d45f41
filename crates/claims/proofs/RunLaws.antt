-- The mark set on a record that has it is the same record, and a record put where it is changes nothing.
use mathlib.Core.Path.{◌≡◌, refl, ap, sym, ◌∙◌}
use mathlib.Core.Bool.{Bool, true, false}
use Prim.Native.Nat.{ℕ}
use Rattle.records.specs.Monitor.{with_flags, mark_run, guest_of, with_guest}
use Rattle.commands.specs.State.{State, state}
use Rattle.records.specs.declared.guest.Guest.{Guest}
use Rattle.records.proofs.MonitorLaws.{put_own, lives}
use Rattle.host_guests.specs.Calls.{run_of}

marked : (g : Guest) → g.run ≡ true → mark_run g ≡ g
marked g e = ap (λ (x : Bool). with_flags g.live g.legacy x g.enrolled g) (sym e)

pub run_again : (v : ℕ) (s : State) → (guest_of s.monitor v).run ≡ true → (run_of v s).left ≡ s
unfolding run_of
run_again v s h = on (guest_of s.monitor v).live refl
  where
    on : (x : Bool) → (guest_of s.monitor v).live ≡ x → (run_of v s).left ≡ s
    on false e = rw (lives s.monitor v, e)
    on true e =
        let m = s.monitor in
        let left : (run_of v s).left ≡ state s.frames s.map (with_guest m v (mark_run (guest_of m v))) = rw (lives m v, e) in
        left ∙ ap (state s.frames s.map) (ap (with_guest m v) (marked (guest_of m v) h) ∙ put_own m v)
