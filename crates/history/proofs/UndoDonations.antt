-- Every sound state whose guests are all new is reached: their frames were donated.
use mathlib.Core.Path.{◌≡◌, refl, sym, ap, subst, ◌∙◌}
use mathlib.Core.Logic.{◌≢◌}
use mathlib.Core.Bool.{Bool, true, false}
use Prim.Native.Nat.{ℕ, ◌+◌, ◌*◌, ◌<◌}
use native.Mathlib.Omega.{arith}
use lib.ListN.{set}
use Rattle.words.specs.MapWord.{map_bits}
use Rattle.words.specs.FrameWord.{frame_bits}
use Rattle.words.specs.declared.map_word.MapWord.{MapWord}
use Rattle.words.specs.declared.map_word.MapWord.TheVariants as map-word
use Rattle.words.specs.declared.frame_word.FrameWord.{FrameWord}
use Rattle.words.specs.declared.frame_word.FrameWord.TheVariants as frame-word
use Rattle.words.proofs.Booleans.{never}
use Rattle.tables.specs.Length.{lengths_hold}
use Rattle.records.specs.Monitor.{new_guest, guest_of}
use Rattle.commands.specs.State.{State, state}
use Rattle.records.specs.declared.guest.Guest.{Guest}
use Rattle.calls.specs.declared.call.Call.TheVariants.{Donate}
use Rattle.history.specs.Sound.{may_hold}
use Rattle.history.proofs.StateWords.{own, look, width_is, at_most}
use Rattle.history.proofs.WordsSound.{state_by, Says, WordsSound}
use Rattle.history.proofs.NamingPairs.{pair_named, pair_apart}
use Rattle.history.proofs.RecordLaws.{guarded_flags}
use Rattle.history.proofs.WordMoves.{FramePut, GranulePut, pair_put}
use Rattle.history.proofs.SameState.{frame_back, map_back}
use Rattle.history.proofs.CallsDone.{donate_leaves}
use Rattle.history.proofs.Reached.{Reached, reached_next, Undone, undone_put, frames_reached}
use Rattle.history.proofs.UndoCreations.{IsNew, new_reached}

-- what a new guest can hold is a private frame
new_holds : (legacy : Bool) (d : MapWord) → may_hold (new_guest legacy) (state_by d) ≡ true → (f : ℕ) → d ≢ map-word.Frame true f
new_holds legacy d h f e = never (rw e at h)

new_vacant : (legacy : Bool) (d : MapWord) → may_hold (new_guest legacy) (state_by d) ≡ true → ((b : Bool) (f : ℕ) → d ≢ map-word.Frame b f)
    → d ≡ map-word.Vacant
new_vacant legacy map-word.Vacant h n = refl
new_vacant legacy (map-word.Frame b f) h n = absurd (n b f refl)
new_vacant legacy map-word.Guarded h n = never (guarded_flags (new_guest legacy) h).1
new_vacant legacy map-word.Damaged h n = never h

abbrev is_owned : FrameWord → Bool
is_owned frame-word.Host = false
is_owned frame-word.Waiting = false
is_owned (frame-word.Owned v b g) = true
is_owned frame-word.Damaged = false

module _ (F W : ℕ) (bounds : lengths_hold F (8 * W) ≡ true) where
  abbrev AllNew : State → Type 0
  AllNew s = (v : ℕ) → v < 8 → IsNew (guest_of s.monitor v)

  -- what such a guest holds
  held : (s : State) → WordsSound F W s → AllNew s → (v g : ℕ) → v < 8 → g < W
      → may_hold (new_guest (guest_of s.monitor v).legacy) (state_by (look W s v g)) ≡ true
  held s i new v g h l = subst (λ x. may_hold x (state_by (look W s v g)) ≡ true) (new v h) (i.holds v g h l)

  none_owned_reached : (s : State) → WordsSound F W s → AllNew s → ((f : ℕ) → f < F → is_owned (own s f) ≡ false) → Reached F W s
  none_owned_reached s i new none =
      new_reached F W bounds s i new (λ v g h l.
      new_vacant (guest_of s.monitor v).legacy (look W s v g) (held s i new v g h l) (λ b f e.
      let p = i.says_back v b g f h l e in
      let y : is_owned (own s f) ≡ true = rw p.1 in
      never (sym (none f p.0) ∙ y)))

  module _ (n : ℕ) (s : State) (i : WordsSound F W s) (new : AllNew s) (h : n < F) (v g : ℕ) (e : own s n ≡ frame-word.Owned v false g) where
    said : Says W s v false g n
    said = i.says v false g n h e

    live : (guest_of s.monitor v).live ≡ true
    live = ap (λ (x : Guest). x.live) (new v said.0)

    abbrev undonated : State
    undonated = state (set s.frames n (frame_bits frame-word.Host)) (set s.map (v * W + g) (map_bits map-word.Vacant)) s.monitor

    undonated_put : FramePut F W s undonated n frame-word.Host × GranulePut F W s undonated v g map-word.Vacant
    undonated_put =
        pair_put i v g n said.0 said.1 h (rw (e, said.2) (pair_named v g n false)) frame-word.Host map-word.Vacant
        (pair_apart v g n frame-word.Host map-word.Vacant tt tt) refl

    donation_undone : Reached F W undonated → Reached F W s
    donation_undone reached =
        let put = undonated_put in
        reached_next reached (Donate v n g) (omega (arith, said.0), (omega (arith, at_most i.sized), (omega (arith, said.1, at_most i.sized), tt)))
        (donate_leaves put.0.sound v n g live h said.1 put.0.frame put.1.granule
        ∙ rw
        (width_is put.0.sound.sized, frame_back i n (frame_bits frame-word.Host) (frame-word.Owned v false g) h e, map_back i v g (map_bits map-word.Vacant) (map-word.Frame false n) said.0 said.1 said.2))

  undo : (s : State) → WordsSound F W s → AllNew s → (n : ℕ) → n < F → (d : FrameWord) → own s n ≡ d → is_owned d ≡ true → Undone F W AllNew is_owned s n
  undo s i new n h frame-word.Host e w = never w
  undo s i new n h frame-word.Waiting e w = never w
  undo s i new n h (frame-word.Owned v true g) e w =
      let p = i.says v true g n h e in
      absurd (new_holds (guest_of s.monitor v).legacy (look W s v g) (held s i new v g p.0 p.1) n p.2)
  undo s i new n h (frame-word.Owned v false g) e w =
      undone_put (undonated_put n s i new h v g e).0 new refl (donation_undone n s i new h v g e)
  undo s i new n h frame-word.Damaged e w = never w

  pub all_new_reached : (s : State) → WordsSound F W s → AllNew s → Reached F W s
  all_new_reached s i new = frames_reached F W AllNew is_owned none_owned_reached (λ t j c n h w. undo t j c n h (own t n) refl w) s i new
