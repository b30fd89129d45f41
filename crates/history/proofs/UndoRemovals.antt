-- A sound state with a slot that has no guest is what the removal of one from there leaves.
use mathlib.Core.Path.{◌≡◌, refl, sym, ap, ◌∙◌}
use mathlib.Core.Logic.{◌≢◌}
use mathlib.Core.Bool.{Bool}
use Prim.Native.Nat.{ℕ, ◌<◌}
use borrow.Author.Tests.{ne_eqb}
use Rattle.words.proofs.Booleans.{never}
use Rattle.words.specs.declared.map_word.MapWord.TheVariants as map-word
use Rattle.words.specs.declared.frame_word.FrameWord.{FrameWord}
use Rattle.words.specs.declared.frame_word.FrameWord.TheVariants as frame-word
use Rattle.records.specs.Monitor.{zero_guest, guest_of, with_guest}
use Rattle.commands.specs.State.{State}
use Rattle.commands.specs.Command.{view_of, effected}
use Rattle.records.specs.declared.guest.Guest.{Guest}
use Rattle.records.specs.declared.monitor.Monitor.{Monitor}
use Rattle.host_removal.specs.Calls.{removed}
use Rattle.history.proofs.StateWords.{own, look, at_or_not}
use Rattle.history.proofs.WordsSound.{WordsSound}
use Rattle.history.proofs.Removal.{owner_gone, owners_gone, look_gone, look_there, gone_sound}
use Rattle.history.proofs.StillCalls.{dead_row}
use Rattle.history.proofs.SameState.{same_state}

module _ {F W : ℕ} {s : State} (i : WordsSound F W s) (v : ℕ) (slot : v < 8) (dead : guest_of s.monitor v ≡ zero_guest) where
  pub row_vacant_lem : (g : ℕ) → g < W → look W s v g ≡ map-word.Vacant
  row_vacant_lem g l = dead_row i v g slot l (ap (λ (x : Guest). x.live) dead)

  -- no frame is that slot's
  pub unowned : (b : Bool) (g f : ℕ) → f < F → own s f ≢ frame-word.Owned v b g
  unowned b g f h e =
      let p = i.says v b g f h e in
      let y = sym (row_vacant_lem g p.1) ∙ p.2 in
      never cc

  pub owners_stay : (f : ℕ) → f < F → owner_gone v (own s f) ≡ own s f
  owners_stay f h = on (own s f) refl
    where
      on : (d : FrameWord) → own s f ≡ d → owner_gone v d ≡ d
      on frame-word.Host e = refl
      on frame-word.Waiting e = refl
      on (frame-word.Owned u b g) e = rw (ne_eqb u v (λ q. unowned b g f h (rw (← q) e)))
      on frame-word.Damaged e = refl

  module _ {t : State} (j : WordsSound F W t) where
    pub removal_leaves : ((f : ℕ) → f < F → owner_gone v (own t f) ≡ own s f) → ((u g : ℕ) → g < W → u ≢ v → look W t u g ≡ look W s u g)
        → with_guest t.monitor v zero_guest ≡ s.monitor → (effected v t (removed (view_of v t))).left ≡ s
    removal_leaves owners granules records =
        same_state (gone_sound j v slot) i
        (λ f h. owners_gone j v slot f h ∙ owners f h)
        (λ u g h l. at_or_not (λ w. look W (effected v t (removed (view_of v t))).left w g ≡ look W s w g) v u
        (look_gone j v slot g l ∙ sym (row_vacant_lem g l))
        (λ n. look_there j v slot u g l n ∙ granules u g l n))
        (λ u h. ap (λ (x : Monitor). guest_of x u) records)
