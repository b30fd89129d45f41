-- Every sound state whose guests are all new and have nothing is reached: they were created in turn, each of its kind.
use mathlib.Core.Path.{◌≡◌, sym, ap, subst, ◌∙◌}
use mathlib.Core.Bool.{true, false, cond}
use Prim.Native.Nat.{ℕ, zero, suc, ◌+◌, ◌*◌, ◌<◌, ◌≤◌}
use native.Mathlib.Decide.{dec_lt}
use native.Mathlib.Omega.{arith}
use Rattle.words.specs.declared.map_word.MapWord.TheVariants as map-word
use Rattle.tables.specs.Length.{lengths_hold}
use Rattle.records.specs.Monitor.{zero_guest, new_guest, guest_of, with_guest, free_from, free_slot}
use Rattle.commands.specs.State.{State, state}
use Rattle.records.specs.declared.guest.Guest.{Guest}
use Rattle.records.specs.declared.monitor.Monitor.{Monitor}
use Rattle.records.proofs.MonitorLaws.{guest_put, guest_other}
use Rattle.calls.specs.declared.call.Call.TheVariants.{Create}
use Rattle.history.proofs.StateWords.{look, at_or_not}
use Rattle.history.proofs.WordsSound.{WordsSound}
use Rattle.history.proofs.RecordMoves.{recorded_sound}
use Rattle.history.proofs.RecordLaws.{zero_sound}
use Rattle.history.proofs.SameState.{guest_back}
use Rattle.history.proofs.CallsDone.{create_leaves}
use Rattle.history.proofs.Reached.{Reached, reached_next}
use Rattle.history.proofs.UndoClearings.{dead_reached}

-- as create sets it, of the kind that it is
abbrev pub IsNew : Guest → Type 0
IsNew g = g ≡ new_guest g.legacy

-- the lowest free slot is n, if those below are live
lowest : (m : Monitor) (n : ℕ) → (guest_of m n).live ≡ false → (k v : ℕ) → v ≤ n → n < v + k → ((u : ℕ) → v ≤ u → u < n → (guest_of m u).live ≡ true) → free_from m v k ≡ n
unfolding free_from
lowest m n dead zero v h l live = absurd (omega arith)
lowest m n dead (suc k) v h l live = on (dec_lt v n) (λ a b c. lowest m n dead k (suc v) a b c)
  where
    on : Dec (v < n) → (suc v ≤ n → n < suc v + k → ((u : ℕ) → suc v ≤ u → u < n → (guest_of m u).live ≡ true) → free_from m (suc v) k ≡ n)
        → cond (guest_of m v).live (free_from m (suc v) k) v ≡ n
    on (yes a) more = rw (live v (omega arith) a) (more (omega arith) (omega arith) (λ u b c. live u (omega arith) c))
    on (no a) more = let here : v ≡ n = omega arith in rw (here, dead)

module _ (F W : ℕ) (bounds : lengths_hold F (8 * W) ≡ true) where
  -- the first n slots have new guests, the others none, and every row is vacant
  record NewUpTo (n : ℕ) (s : State) : Type 0 where
    new : (v : ℕ) → v < n → IsNew (guest_of s.monitor v)
    none : (v : ℕ) → v < 8 → n ≤ v → guest_of s.monitor v ≡ zero_guest
    vacant : (v g : ℕ) → v < 8 → g < W → look W s v g ≡ map-word.Vacant

  creations_reached : (n : ℕ) → n ≤ 8 → (s : State) → WordsSound F W s → NewUpTo n s → Reached F W s
  unfolding look
  creations_reached zero l s i k = dead_reached F W bounds s i (λ v h. k.none v h (omega arith))
  creations_reached (suc n) l s i k =
      let m = s.monitor in
      let before = state s.frames s.map (with_guest m n zero_guest) in
      let slot : n < 8 = omega arith in
      let is-new = k.new n (omega arith) in
      let j : WordsSound F W before = recorded_sound i n zero_guest zero_sound (λ g h q. rw (k.vacant n g slot h)) in
      let here : guest_of before.monitor n ≡ zero_guest = guest_put m n zero_guest slot (omega (arith, i.sized.guests)) in
      let there : (v : ℕ) → (v ≡ n → ⊥) → guest_of before.monitor v ≡ guest_of m v = λ v q. guest_other m n v zero_guest q in
      let reached = creations_reached n (omega arith) before j (record {
        new = λ v h. subst IsNew (sym (there v (λ q. omega arith))) (k.new v (omega arith));
        none = λ v h a. at_or_not (λ u. u < 8 → n ≤ u → guest_of before.monitor u ≡ zero_guest) n v (λ b c. here) (λ q b c. there v q ∙ k.none v b (omega arith)) h a;
        vacant = k.vacant;
      }) in
      let dead : (guest_of before.monitor n).live ≡ false = ap (λ (x : Guest). x.live) here in
      let free : free_slot before.monitor ≡ n = lowest before.monitor n dead 8 0 (omega arith) (omega arith) (λ u a b.
      ap (λ (x : Guest). x.live) (there u (λ q. omega arith) ∙ k.new u (omega arith))) in
      let legacy = (guest_of m n).legacy in
      reached_next reached (Create legacy) tt (create_leaves j legacy n free slot dead ∙ rw (guest_back m n zero_guest (new_guest legacy) slot is-new))

  pub new_reached : (s : State) → WordsSound F W s → ((v : ℕ) → v < 8 → IsNew (guest_of s.monitor v))
      → ((v g : ℕ) → v < 8 → g < W → look W s v g ≡ map-word.Vacant) → Reached F W s
  new_reached s i new vacant = creations_reached 8 (omega arith) s i (record { new = new; none = λ v h l. absurd (omega arith); vacant = vacant })
