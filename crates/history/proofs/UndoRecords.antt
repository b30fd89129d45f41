-- Every sound state without shared and guarded granules is reached: each slot's guest was new, then had its bitmap written, ran and enrolled, or
-- was removed. A legacy guest has enrolled since it was new.
use mathlib.Core.Path.{◌≡◌, refl, sym, ap, subst, ◌∙◌}
use mathlib.Core.Bool.{Bool, true, false, ◌||◌}
use Prim.Native.Nat.{ℕ, zero, suc, ◌*◌, ◌<◌, ◌≤◌}
use native.Mathlib.Omega.{arith}
use borrow.Author.Tests.{leb-true, le-leb}
use Rattle.words.specs.declared.map_word.MapWord.{MapWord}
use Rattle.words.specs.declared.map_word.MapWord.TheVariants as map-word
use Rattle.words.proofs.Booleans.{never}
use Rattle.tables.specs.Length.{lengths_hold}
use Rattle.records.specs.Monitor.{zero_guest, new_guest, mark_run, enroll, guest_of, with_guest}
use Rattle.commands.specs.State.{State, state}
use Rattle.commands.specs.Command.{view_of, effected}
use Rattle.records.specs.declared.guest.Guest.{Guest}
use Rattle.records.proofs.MonitorLaws.{guest_put, guest_other, put_again}
use Rattle.records.specs.Change.{with_bitmap}
use Rattle.host_registers.specs.Registers.{register_numbered}
use Rattle.records.specs.declared.change.FirmwareRegister.TheVariants.{VendorHyp}
use Rattle.host_removal.specs.Calls.{removed}
use Rattle.calls.specs.declared.call.Call.TheVariants.{Run, Remove, RegisterWrite, Hypercall}
use Rattle.history.specs.Sound.{SoundRecord, may_hold}
use Rattle.history.proofs.StateWords.{own, look, at_or_not}
use Rattle.history.proofs.WordsSound.{state_by, WordsSound}
use Rattle.history.proofs.RecordMoves.{recorded_sound}
use Rattle.history.proofs.RecordLaws.{new_sound, run_sound, bitmap_sound, written, started, joined, joined_since, record_is}
use Rattle.history.proofs.SameState.{guest_same, guest_back}
use Rattle.history.proofs.CallsDone.{asking, asking_fits, run_leaves, remove_leaves, write_leaves, enroll_leaves}
use Rattle.history.proofs.Reached.{Reached, reached_next}
use Rattle.history.proofs.UndoRemovals.{owners_stay, removal_leaves}
use Rattle.history.proofs.UndoCreations.{IsNew}
use Rattle.history.proofs.UndoDonations.{all_new_reached}

-- what a new guest may hold, which is the same for both kinds, any live one may
plain_held : (g : Guest) (d : MapWord) → g.live ≡ true → may_hold (new_guest false) (state_by d) ≡ true → may_hold g (state_by d) ≡ true
plain_held g map-word.Vacant live h = refl
plain_held g (map-word.Frame true f) live h = never h
plain_held g (map-word.Frame false f) live h = live
plain_held g map-word.Guarded live h = never h
plain_held g map-word.Damaged live h = never h

-- the rows hold what new guests may hold
abbrev pub Plain : ℕ → State → Type 0
Plain W s = (v g : ℕ) → v < 8 → g < W → may_hold (new_guest false) (state_by (look W s v g)) ≡ true

-- the record of slot n, by the calls that make it of a new one of its kind
module _ (F W : ℕ) (s : State) (i : WordsSound F W s) (plain : Plain W s) (n : ℕ) (slot : n < 8) where
  abbrev guest : Guest
  guest = guest_of s.monitor n

  abbrev legacy : Bool
  legacy = guest.legacy

  abbrev new : Guest
  new = new_guest legacy

  abbrev having : Guest → State
  having r = state s.frames s.map (with_guest s.monitor n r)

  having_sound : (r : Guest) → SoundRecord r → r.live ≡ true → WordsSound F W (having r)
  having_sound r k live = recorded_sound i n r k (λ g l q. plain_held r (look W s n g) live (plain n g slot l))

  new_guest_sound : WordsSound F W (having new)
  new_guest_sound = having_sound new (new_sound legacy) refl

  guest_is : (r : Guest) → guest_of (with_guest s.monitor n r) n ≡ r
  guest_is r = guest_put s.monitor n r slot (omega (arith, i.sized.guests))

  having_then : (f : Guest → Guest) (r : Guest) → state s.frames s.map (with_guest (with_guest s.monitor n r) n (f (guest_of (with_guest s.monitor n r) n))) ≡ having (f r)
  having_then f r = rw (guest_is r, put_again s.monitor n r (f r))

  written_reached : (x : ℕ) → x ≤ 1 → Reached F W (having new) → Reached F W (having (written legacy x))
  unfolding register_numbered
  written_reached zero h reached =
      reached_next reached (RegisterWrite n 2 0) (omega arith, (omega arith, (omega arith, tt)))
      (write_leaves new_guest_sound n (ap (λ (g : Guest). g.live) (guest_is new)) (ap (λ (g : Guest). g.run) (guest_is new))
      ∙ having_then (λ g. with_bitmap VendorHyp 0 g) new)
  written_reached (suc zero) h reached = reached
  written_reached (suc (suc x)) h reached = absurd (omega arith)

  written_sound : (x : ℕ) → x ≤ 1 → SoundRecord (written legacy x)
  written_sound x h = bitmap_sound VendorHyp x new (new_sound legacy) refl (le-leb x 1 h)

  started_reached : (x : ℕ) → x ≤ 1 → (a : Bool) → Reached F W (having (written legacy x)) → Reached F W (having (started legacy x a))
  started_reached x h true reached =
      let r = written legacy x in
      reached_next reached (Run n) (omega arith, tt)
      (run_leaves (having_sound r (written_sound x h) refl) n (ap (λ (g : Guest). g.live) (guest_is r)) ∙ having_then mark_run r)
  started_reached x h false reached = reached

  -- a call enrolls a guest with ranges
  joined_reached : (kind : Bool) → legacy ≡ kind → (x : ℕ) → x ≤ 1 → (a b : Bool) → (b ≡ true → a || legacy ≡ true)
      → Reached F W (having (started legacy x a)) → Reached F W (having (joined legacy x a b))
  joined_reached true is x h a true k reached = rw (joined_since legacy is x a) reached
  joined_reached false is x h true true k reached =
      let r = mark_run (written legacy x) in
      reached_next reached (Hypercall n (asking 0xC6000006 0)) (asking_fits n 0xC6000006 0 (omega arith) (omega arith) (omega arith))
      (enroll_leaves (having_sound r (run_sound (written legacy x) (written_sound x h) refl) refl) n
      (ap (λ (g : Guest). g.live) (guest_is r)) (ap (λ (g : Guest). g.run) (guest_is r)) (ap (λ (g : Guest). g.legacy) (guest_is r) ∙ is)
      ∙ having_then enroll r)
  joined_reached false is x h false true k reached = never (sym is ∙ k refl)
  joined_reached kind is x h a false k reached = reached

  -- a live guest
  live_reached : guest.live ≡ true → Reached F W (having new) → Reached F W s
  live_reached live reached =
      let k = i.records n slot in
      let x = guest.vendor_hyp in
      let few : x ≤ 1 = leb-true x 1 k.limit in
      let ran = started_reached x few guest.run (written_reached x few reached) in
      let all = joined_reached legacy refl x few guest.run guest.enrolled k.enrolled ran in
      rw (record_is guest live k, guest_same s.monitor n guest slot refl) at all

  -- a slot without a guest
  module _ (dead : guest.live ≡ false) where
    none : guest ≡ zero_guest
    none = (i.records n slot).dead dead

    removed_is : (effected n (having new) (removed (view_of n (having new)))).left ≡ s
    unfolding own look
    removed_is =
        removal_leaves i n slot none new_guest_sound (λ f h. owners_stay i n slot none f h) (λ u g h m. refl)
        (guest_back s.monitor n new zero_guest slot none)

    dead_reached : Reached F W (having new) → Reached F W s
    dead_reached reached =
        reached_next reached (Remove n) (omega arith, tt) (remove_leaves new_guest_sound n (ap (λ (g : Guest). g.live) (guest_is new)) ∙ removed_is)

  slot_reached : (b : Bool) → guest.live ≡ b → Reached F W (having new) → Reached F W s
  slot_reached true e reached = live_reached e reached
  slot_reached false e reached = dead_reached e reached

module _ (F W : ℕ) (bounds : lengths_hold F (8 * W) ≡ true) where
  records_reached : (n : ℕ) → n ≤ 8 → (s : State) → WordsSound F W s → Plain W s
      → ((v : ℕ) → v < 8 → n ≤ v → IsNew (guest_of s.monitor v)) → Reached F W s
  unfolding look
  records_reached zero l s i plain are-new = all_new_reached F W bounds s i (λ v h. are-new v h (omega arith))
  records_reached (suc n) l s i plain are-new =
      let slot : n < 8 = omega arith in
      let r = new F W s i plain n slot in
      let t = having F W s i plain n slot r in
      slot_reached F W s i plain n slot (guest_of s.monitor n).live refl
      (records_reached n (omega arith) t (new_guest_sound F W s i plain n slot) plain (λ v h m.
      at_or_not (λ u. u < 8 → n ≤ u → IsNew (guest_of t.monitor u)) n v
      (λ a b. subst IsNew (sym (guest_is F W s i plain n slot r)) refl)
      (λ q a b. subst IsNew (sym (guest_other s.monitor n v r q)) (are-new v a (omega arith)))
      h m))

  pub plain_reached : (s : State) → WordsSound F W s → Plain W s → Reached F W s
  plain_reached s i plain = records_reached 8 (omega arith) s i plain (λ v h l. absurd (omega arith))
