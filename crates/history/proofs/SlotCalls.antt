-- Create and remove keep what every call keeps.
use mathlib.Core.Path.{◌≡◌, refl, sym, ap, ◌∙◌}
use mathlib.Core.Bool.{Bool, true, false, cond}
use mathlib.Core.List.{List, [], ◌∷◌}
use Prim.Native.Nat.{ℕ, zero, suc, ◌+◌, ◌<◌}
use native.Mathlib.Decide.{dec_lt}
use native.Mathlib.Nat.{zero-add, add-zero, add-suc, suc-add}
use native.Mathlib.Omega.{arith}
use borrow.Author.Tests.{ltb-true, eq-eqb}
use lib.Dec.{eqb}
use lib.ListN.{length, get_or}
use Rattle.words.proofs.Booleans.{never}
use Rattle.words.specs.MapWord.{map_bits, map_word_of}
use Rattle.words.specs.declared.map_word.MapWord.TheVariants as map-word
use Rattle.words.proofs.MapWordLaws.{map_encode_decode}
use Rattle.tables.specs.Row.{row_of}
use Rattle.pairs.specs.Pair.{granule_state, granule_undamaged}
use Rattle.tables.proofs.RowLaws.{row_length, row_length_none}
use Rattle.answers.specs.Answer.{numbers_of}
use Rattle.records.specs.Monitor.{guest_of, free_from, free_slot}
use Rattle.commands.specs.State.{State}
use Rattle.records.specs.declared.monitor.Monitor.{Monitor}
use Rattle.records.proofs.MonitorLaws.{lived}
use Rattle.rows.specs.WholeRow.{row_vacant, undamaged_from, row_undamaged}
use Rattle.calls.specs.Step.{step}
use Rattle.calls.specs.declared.call.Call.TheVariants.{Create, Remove}
use Rattle.history.specs.Log as log
use Rattle.history.proofs.StateWords.{look, lengths_hold_lem, width_is}
use Rattle.history.proofs.WordsSound.{WordsSound}
use Rattle.history.proofs.SoundLaws.{pair_seen}
use Rattle.history.proofs.Removal.{owner_gone, says_row, owners_gone, gone_sound}
use Rattle.history.proofs.FramesAtGranules.{owner_changed}
use Rattle.history.proofs.Preserved.{Preserved, test, sure, call_kept}
use Rattle.history.proofs.StillCalls.{dead_row, calm_kept}
use Rattle.history.proofs.PassedTests.{granule_undamaged_lem}

-- a free slot is not live
free_dead : (m : Monitor) (n v : ℕ) → free_from m v n < v + n → (guest_of m (free_from m v n)).live ≡ false
unfolding free_from
free_dead m zero v h = absurd (omega arith)
free_dead m (suc n) v h = on (guest_of m v).live refl h (λ l. free_dead m n (suc v) l)
  where
    on : (b : Bool) → (guest_of m v).live ≡ b → cond b (free_from m (suc v) n) v < v + suc n
        → (free_from m (suc v) n < suc v + n → (guest_of m (free_from m (suc v) n)).live ≡ false) → (guest_of m (cond b (free_from m (suc v) n) v)).live ≡ false
    on true e l more = more (omega arith)
    on false e l more = e

-- a row by its words
vacant_all : (ws : List ℕ) → ((g : ℕ) → g < length ws → get_or ws g 0 ≡ map_bits map-word.Vacant) → row_vacant ws ≡ true
unfolding row_vacant
vacant_all [] h = refl
vacant_all (w ∷ ws) h = rw (eq-eqb w (map_bits map-word.Vacant) (h 0 (omega arith))) (vacant_all ws (λ g l. h (suc g) (omega arith)))

undamaged_all : (frames : List ℕ) (v g : ℕ) (ws : List ℕ)
    → ((k : ℕ) → k < length ws → granule_undamaged (granule_state frames v (g + k) (map_word_of (get_or ws k 0))) ≡ true) → undamaged_from frames v g ws ≡ true
unfolding undamaged_from
undamaged_all frames v g [] h = refl
undamaged_all frames v g (w ∷ ws) h =
    let first : granule_undamaged (granule_state frames v g (map_word_of w)) ≡ true = rw add-zero at (h 0 (omega arith)) in
    rw first (undamaged_all frames v (suc g) ws (λ k l. rw (suc-add, ← (add-suc g k)) (h (suc k) (omega arith))))

module _ {F W : ℕ} {s : State} (i : WordsSound F W s) where
  -- the words of a row
  row_seen : (v g : ℕ) → v < 8 → g < length (row_of s.map v) → (g < W) × (map_word_of (get_or (row_of s.map v) g 0) ≡ look W s v g)
  row_seen v g h l =
      let below : g < W = omega (arith, row_length s.map v h, width_is i.sized) in
      (below, says_row i v h g below)

  -- a slot that is not live has a vacant row, and one that is not there has none
  pub free_row : (v : ℕ) → (v < 8 → (guest_of s.monitor v).live ≡ false) → row_vacant (row_of s.map v) ≡ true
  free_row v dead = vacant_all (row_of s.map v) (λ g l. on g l (dec_lt v 8))
    where
      on : (g : ℕ) → g < length (row_of s.map v) → Dec (v < 8) → get_or (row_of s.map v) g 0 ≡ map_bits map-word.Vacant
      on g l (yes h) =
          let p = row_seen v g h l in
          let vacant = p.1 ∙ dead_row i v g h p.0 (dead h) in
          sym (map_encode_decode (get_or (row_of s.map v) g 0) (λ q. never cc)) ∙ ap map_bits vacant
      on g l (no n) = absurd (omega (arith, row_length_none s.map v (omega arith)))

  pub row_undamaged_lem : (v : ℕ) → v < 8 → row_undamaged s.frames v (row_of s.map v) ≡ true
  row_undamaged_lem v h =
      undamaged_all s.frames v 0 (row_of s.map v) (λ g l.
      let p = row_seen v g h l in
      rw (zero-add, p.1, ← (pair_seen i.sized v g h p.0)) (granule_undamaged_lem i v g h p.0))

  pub keep_create : (legacy : Bool) → Preserved F W s (Create legacy) (step (Create legacy) s)
  unfolding numbers_of
  keep_create legacy =
      let v = free_slot s.monitor in
      let dead : v < 8 → (guest_of s.monitor v).live ≡ false = λ h. free_dead s.monitor 8 0 (omega arith) in
      calm_kept i (Create legacy) (λ f n x. refl)
      (test (sure _ (lengths_hold_lem i.sized)) λ a. test (sure _ (free_row v dead)) λ b. test (λ q. (refl, refl)) λ c. tt)
      (λ p. let h = ltb-true v 8 p.1.1.0 in (h, dead h))

  pub keep_remove : (v : ℕ) → Preserved F W s (Remove v) (step (Remove v) s)
  unfolding numbers_of
  keep_remove v =
      let g = guest_of s.monitor v in
      call_kept i (Remove v)
      (test (sure _ (lengths_hold_lem i.sized)) λ a. test (λ q. (refl, refl)) λ live. test (sure _ (row_undamaged_lem v (lived v g live).0)) λ b. tt)
      (λ p.
      let slot = (lived v g p.1.0).0 in
      record {
        sound = gone_sound i v slot;
        logged = λ k l x q.
            owners_gone i v slot k l ∙ ap (owner_gone v) q
            ∙ sym (owner_changed (λ u h. eqb u v) (λ u h. log.owner_removed) x);
        usual_verdict = refl;
      })
