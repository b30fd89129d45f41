-- Calls of which no test refuses, and the states that they leave.
use mathlib.Core.Path.{◌≡◌, refl, sym, ap, ◌∙◌}
use mathlib.Core.Bool.{Bool, true, false, ◌&&◌}
use mathlib.Core.List.{List}
use Prim.Native.Nat.{ℕ, suc, ◌+◌, ◌*◌, ◌%◌, ◌<◌, ◌^◌}
use native.Mathlib.Omega.{arith}
use borrow.Author.Tests.{lt-ltb, eq-eqb}
use lib.ListN.{set}
use Rattle.runs.specs.Run.{took}
use Rattle.words.specs.Granule.{address_of, is_base}
use Rattle.words.specs.MapWord.{map_bits, map_word_of}
use Rattle.words.specs.FrameWord.{frame_bits}
use Rattle.words.specs.declared.map_word.MapWord.TheVariants as map-word
use Rattle.words.specs.declared.frame_word.FrameWord.TheVariants as frame-word
use Rattle.words.proofs.GranuleLaws.{granule_address}
use Rattle.tables.specs.Row.{word_at}
use Rattle.pairs.specs.Pair.{granule_state}
use Rattle.records.specs.Monitor.{new_guest, mark_run, enroll, guest_of, with_guest, free_slot}
use Rattle.records.specs.Change.{with_bitmap}
use Rattle.records.specs.declared.guest.Guest.{Guest}
use Rattle.commands.specs.Command.{view_of, effected}
use Rattle.records.specs.declared.change.FirmwareRegister.TheVariants.{VendorHyp}
use Rattle.commands.specs.State.{State, state}
use Rattle.records.proofs.MonitorLaws.{live_slot, lives}
use Rattle.granules.specs.Kind.{change_of, sharing, guarding}
use Rattle.granules.specs.Step.{place, step_from, table_step}
use Rattle.granules.specs.declared.kinds.Operation.{Operation}
use Rattle.functions.specs.Function.{function_of}
use Rattle.functions.specs.Rules.{registers, meets, permits}
use Rattle.functions.specs.declared.numbers.Function.TheVariants.{Share, GuardMap}
use Rattle.call_table.specs.Table.{granules_of, ranged_row_of, legacy_row_of, call_row_of}
use Rattle.call_table.specs.declared.rows.Count.{Count}
use Rattle.call_table.specs.declared.rows.Count.TheVariants.{One, AskedOrOne}
use Rattle.call_table.specs.declared.rows.Action.TheVariants.{Change}
use Rattle.call_table.specs.declared.rows.CallRow.{CallRow}
use Rattle.functions.specs.declared.rules.Registers.{Registers}
use Rattle.guest_hypercalls.specs.Calls.{act_of, row_for}
use Rattle.host_registers.specs.Registers.{register_numbered}
use Rattle.host_donation.specs.Calls.{donated}
use Rattle.host_removal.specs.Calls.{removed}
use Rattle.calls.specs.Step.{step}
use Rattle.calls.specs.declared.call.Call.TheVariants.{Create, Donate, Run, Remove, RegisterWrite, Hypercall}
use Rattle.history.specs.Reachable.{Fits}
use Rattle.history.proofs.StateWords.{own, look, lengths_hold_lem, width_is}
use Rattle.history.proofs.WordsSound.{state_by, WordsSound}
use Rattle.history.proofs.SoundLaws.{pair_seen, granule_found, frame_found}
use Rattle.history.proofs.SlotCalls.{free_row, row_undamaged_lem}

module _ {F W : ℕ} {s : State} (i : WordsSound F W s) where
  pub create_leaves : (legacy : Bool) (v : ℕ) → free_slot s.monitor ≡ v → v < 8 → (guest_of s.monitor v).live ≡ false
      → (step (Create legacy) s).left ≡ state s.frames s.map (with_guest s.monitor v (new_guest legacy))
  unfolding step
  create_leaves legacy v e h dead = rw (e, lengths_hold_lem i.sized, free_row i v (λ l. dead), lt-ltb v 8 h)

  pub donate_leaves : (v f g : ℕ) → (guest_of s.monitor v).live ≡ true → f < F → g < W → own s f ≡ frame-word.Host → look W s v g ≡ map-word.Vacant
      → (step (Donate v f g) s).left ≡ (effected v s (donated f g (view_of v s))).left
  unfolding step
  donate_leaves v f g live h l host vacant =
      let slot = live_slot s.monitor v live in
      rw (lengths_hold_lem i.sized, lives s.monitor v, live, i.sized.frame_words, lt-ltb f F h, width_is i.sized, lt-ltb g W l, granule_found i v g slot l, vacant, frame_found i f h, host)

  pub run_leaves : (v : ℕ) → (guest_of s.monitor v).live ≡ true → (step (Run v) s).left ≡ state s.frames s.map (with_guest s.monitor v (mark_run (guest_of s.monitor v)))
  unfolding step
  run_leaves v live = rw (lives s.monitor v, live)

  pub remove_leaves : (v : ℕ) → (guest_of s.monitor v).live ≡ true → (step (Remove v) s).left ≡ (effected v s (removed (view_of v s))).left
  unfolding step
  remove_leaves v live = rw (lengths_hold_lem i.sized, lives s.monitor v, live, row_undamaged_lem i v (live_slot s.monitor v live))

  -- VENDOR_HYP, register 2, written with 0
  pub write_leaves : (v : ℕ) → (guest_of s.monitor v).live ≡ true → (guest_of s.monitor v).run ≡ false → (step (RegisterWrite v 2 0) s).left
      ≡ state s.frames s.map (with_guest s.monitor v (with_bitmap VendorHyp 0 (guest_of s.monitor v)))
  unfolding step register_numbered
  write_leaves v live fresh = rw (lives s.monitor v, live, fresh)

-- registers of a call at granule g that asks for one granule
abbrev pub asking : ℕ → ℕ → Registers
asking number g = registers number (address_of g) 0 0

pub asking_fits : (v number g : ℕ) → v < 8 → number < 2 ^ 64 → g < 2 ^ 52 → Fits (Hypercall v (asking number g))
asking_fits v number g h n l = (omega arith, (n, (omega arith, (omega arith, (omega arith, tt)))))

base_is : (g : ℕ) → is_base (address_of g) ≡ true
base_is g = eq-eqb (address_of g % 4096) 0 (omega arith)

-- what a row of a call at granule g asks is met, and it changes one granule, of a guest of either kind
record AsksOne (w : CallRow) (g : ℕ) (guest : Guest) (o : Operation) : Type 0 where
  count : Count
  met : meets w.r1 (address_of g) && (meets w.r2 0 && meets w.r3 0) ≡ true
  may : permits w.condition guest ≡ true
  acts : w.action ≡ Change o count
  one : granules_of count 0 ≡ 1

share_asks : (legacy : Bool) (g : ℕ) (guest : Guest) → AsksOne (call_row_of legacy Share) g guest sharing
unfolding legacy_row_of ranged_row_of
share_asks true g guest = record { count = One; met = rw (base_is g); may = refl; acts = refl; one = refl }
share_asks false g guest = record { count = AskedOrOne; met = rw (base_is g); may = refl; acts = refl; one = refl }

guard_asks : (legacy : Bool) (g : ℕ) (guest : Guest) → guest.enrolled ≡ true → AsksOne (call_row_of legacy GuardMap) g guest guarding
unfolding legacy_row_of ranged_row_of
guard_asks true g guest enrolled = record { count = One; met = rw (base_is g); may = refl; acts = refl; one = refl }
guard_asks false g guest enrolled = record { count = One; met = rw (base_is g); may = enrolled; acts = refl; one = refl }

module _ {F W : ℕ} {s : State} (i : WordsSound F W s) (v : ℕ) (live : (guest_of s.monitor v).live ≡ true) (has_run : (guest_of s.monitor v).run ≡ true) where
  slot : v < 8
  slot = live_slot s.monitor v live

  pub enroll_leaves : (guest_of s.monitor v).legacy ≡ false
      → (step (Hypercall v (asking 0xC6000006 0)) s).left ≡ state s.frames s.map (with_guest s.monitor v (enroll (guest_of s.monitor v)))
  unfolding step function_of ranged_row_of act_of
  enroll_leaves ranged = rw (lengths_hold_lem i.sized, lives s.monitor v, live, has_run, ranged)

  -- such a call leaves the tables of its one step
  one_leaves : (number g : ℕ) (o : Operation) (w : CallRow) → row_for (asking number g) (guest_of s.monitor v) ≡ w
      → AsksOne w g (guest_of s.monitor v) o → (map frames : List ℕ) → table_step o v (place s.map s.frames g) ≡ took (place map frames (suc g))
      → (step (Hypercall v (asking number g)) s).left ≡ state frames map s.monitor
  unfolding step act_of
  one_leaves number g o w row k map frames e =
      rw (row, k.met, k.may, lengths_hold_lem i.sized, lives s.monitor v, live, has_run, k.acts, k.one, granule_address g, e)

  module _ (g : ℕ) (below : g < W) where
    found : (k : _) → look W s v g ≡ k → granule_state s.frames v g (map_word_of (word_at s.map v g)) ≡ state_by k
    unfolding look
    found k e =
        let seen : granule_state s.frames v g (map_word_of (word_at s.map v g)) ≡ granule_state s.frames v g (look W s v g) = rw (width_is i.sized) in
        seen ∙ sym (pair_seen i.sized v g slot below) ∙ granule_found i v g slot below ∙ ap state_by e

    shares : (f : ℕ) → look W s v g ≡ map-word.Frame false f
        → table_step sharing v (place s.map s.frames g)
        ≡ took (place (set s.map (v * W + g) (map_bits (map-word.Frame true f))) (set s.frames f (frame_bits (frame-word.Owned v true g))) (suc g))
    unfolding step_from change_of
    shares f e = rw (found (map-word.Frame false f) e, width_is i.sized, lt-ltb g W below)

    pub share_leaves : (f : ℕ) → look W s v g ≡ map-word.Frame false f
        → (step (Hypercall v (asking 0xC6000003 g)) s).left
        ≡ state (set s.frames f (frame_bits (frame-word.Owned v true g))) (set s.map (v * W + g) (map_bits (map-word.Frame true f))) s.monitor
    unfolding function_of
    share_leaves f e =
        let guest = guest_of s.monitor v in
        one_leaves 0xC6000003 g sharing (call_row_of guest.legacy Share) refl (share_asks guest.legacy g guest) _ _ (shares f e)

    guards : look W s v g ≡ map-word.Vacant
        → table_step guarding v (place s.map s.frames g) ≡ took (place (set s.map (v * W + g) (map_bits map-word.Guarded)) s.frames (suc g))
    unfolding step_from change_of
    guards e = rw (found map-word.Vacant e, width_is i.sized, lt-ltb g W below)

    pub guard_leaves : (guest_of s.monitor v).enrolled ≡ true → look W s v g ≡ map-word.Vacant
        → (step (Hypercall v (asking 0xC6000007 g)) s).left ≡ state s.frames (set s.map (v * W + g) (map_bits map-word.Guarded)) s.monitor
    unfolding function_of
    guard_leaves enrolled e =
        let guest = guest_of s.monitor v in
        one_leaves 0xC6000007 g guarding (call_row_of guest.legacy GuardMap) refl (guard_asks guest.legacy g guest enrolled) _ _ (guards e)
