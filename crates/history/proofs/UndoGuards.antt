-- Every sound state without shared granules is reached: its guarded ones were guarded.
use mathlib.Core.Path.{◌≡◌, refl, sym, ap, ◌∙◌}
use mathlib.Core.Logic.{◌≢◌}
use mathlib.Core.Bool.{Bool, true, false}
use Prim.Native.Nat.{ℕ, zero, suc, ◌+◌, ◌*◌, ◌<◌, ◌≤◌}
use native.Mathlib.Decide.{ℕ_discrete}
use native.Mathlib.Omega.{arith}
use lib.ListN.{set}
use Rattle.words.specs.MapWord.{map_bits}
use Rattle.words.specs.declared.map_word.MapWord.{MapWord}
use Rattle.words.specs.declared.map_word.MapWord.TheVariants as map-word
use Rattle.words.specs.declared.frame_word.FrameWord.{FrameWord}
use Rattle.words.specs.declared.frame_word.FrameWord.TheVariants as frame-word
use Rattle.words.proofs.Booleans.{never}
use Rattle.tables.specs.Length.{lengths_hold}
use Rattle.records.specs.Monitor.{new_guest, guest_of}
use Rattle.commands.specs.State.{State, state}
use Rattle.records.specs.declared.guest.Guest.{Guest}
use Rattle.calls.specs.declared.call.Call.TheVariants.{Hypercall}
use Rattle.history.specs.Sound.{SoundRecord, may_hold}
use Rattle.history.proofs.StateWords.{own, look, index_same, index_below, at_most}
use Rattle.history.proofs.WordsSound.{state_by, WordsSound}
use Rattle.history.proofs.RecordLaws.{guarded_flags}
use Rattle.history.proofs.WordMoves.{GranulePut, granule_put}
use Rattle.history.proofs.SameState.{Placed, placed, map_back}
use Rattle.history.proofs.CallsDone.{asking, asking_fits, guard_leaves}
use Rattle.history.proofs.Reached.{Reached, reached_next}
use Rattle.history.proofs.UndoRecords.{plain_reached}

-- a guest that has run is live
pub run_live : (g : Guest) → SoundRecord g → g.run ≡ true → g.live ≡ true
run_live g k e = on g.live refl
  where
    on : (b : Bool) → g.live ≡ b → g.live ≡ true
    on true h = h
    on false h = let dead : g.run ≡ false = ap (λ (x : Guest). x.run) (k.dead h) in never (sym dead ∙ e)

plain_word : (g : Guest) (d : MapWord) → may_hold g (state_by d) ≡ true → ((f : ℕ) → d ≢ map-word.Frame true f) → d ≢ map-word.Guarded → may_hold (new_guest false) (state_by d) ≡ true
plain_word g map-word.Vacant h a b = refl
plain_word g (map-word.Frame true f) h a b = absurd (a f refl)
plain_word g (map-word.Frame false f) h a b = refl
plain_word g map-word.Guarded h a b = absurd (b refl)
plain_word g map-word.Damaged h a b = never h

abbrev pub is_shared_frame : FrameWord → Bool
is_shared_frame frame-word.Host = false
is_shared_frame frame-word.Waiting = false
is_shared_frame (frame-word.Owned v b g) = b
is_shared_frame frame-word.Damaged = false

guarded? : (d : MapWord) → Dec (d ≡ map-word.Guarded)
guarded? map-word.Vacant = no (λ e. never cc)
guarded? (map-word.Frame b f) = no (λ e. never cc)
guarded? map-word.Guarded = yes refl
guarded? map-word.Damaged = no (λ e. never cc)

module _ (F W : ℕ) (bounds : lengths_hold F (8 * W) ≡ true) where
  abbrev NoneShared : State → Type 0
  NoneShared s = (f : ℕ) → f < F → is_shared_frame (own s f) ≡ false

  unshared_word : (s : State) → WordsSound F W s → NoneShared s → (v g f : ℕ) → v < 8 → g < W → look W s v g ≢ map-word.Frame true f
  unshared_word s i none v g f a b e =
      let p = i.says_back v true g f a b e in
      let y : is_shared_frame (own s f) ≡ true = rw p.1 in
      never (sym (none f p.0) ∙ y)

  -- no granule whose word is the n-th or a later one is guarded
  abbrev NoneGuardedFrom : ℕ → State → Type 0
  NoneGuardedFrom n s = (v g : ℕ) → v < 8 → g < W → n ≤ v * W + g → look W s v g ≢ map-word.Guarded

  module _ (s : State) (i : WordsSound F W s) (v g : ℕ) (slot : v < 8) (below : g < W) (e : look W s v g ≡ map-word.Guarded) where
    enrolled_run : ((guest_of s.monitor v).enrolled ≡ true) × ((guest_of s.monitor v).run ≡ true)
    enrolled_run = guarded_flags (guest_of s.monitor v) (rw e at (i.holds v g slot below))

    has_run : (guest_of s.monitor v).run ≡ true
    has_run = enrolled_run.1

    abbrev unguarded : State
    unguarded = state s.frames (set s.map (v * W + g) (map_bits map-word.Vacant)) s.monitor

    unguarded_put : GranulePut F W s unguarded v g map-word.Vacant
    unguarded_put = granule_put i v g slot below (rw e tt) map-word.Vacant tt refl

    guard_undone : Reached F W unguarded → Reached F W s
    guard_undone reached =
        reached_next reached (Hypercall v (asking 0xC6000007 g)) (asking_fits v 0xC6000007 g slot (omega arith) (omega (arith, at_most i.sized)))
        (guard_leaves unguarded_put.sound v (run_live (guest_of s.monitor v) (i.records v slot) has_run) has_run g below enrolled_run.0 unguarded_put.granule
        ∙ rw (map_back i v g (map_bits map-word.Vacant) map-word.Guarded slot below e))

  guards_reached : (n : ℕ) → n ≤ 8 * W → (s : State) → WordsSound F W s → NoneShared s → NoneGuardedFrom n s → Reached F W s
  unfolding own
  guards_reached zero l s i none free =
      plain_reached F W bounds s i (λ v g a b.
      plain_word (guest_of s.monitor v) (look W s v g) (i.holds v g a b) (λ f. unshared_word s i none v g f a b) (free v g a b (omega arith)))
  guards_reached (suc n) l s i none free = by (guarded? (look W s v g)) (λ t j a b. guards_reached n (omega arith) t j a b)
    where
      at : Placed 8 W n
      at = placed 8 W n (omega arith)

      v : ℕ
      v = at.slot

      g : ℕ
      g = at.granule

      -- the n-th word, and the later ones
      fewer : (t : State) → look W t v g ≢ map-word.Guarded
          → ((u h : ℕ) → u < 8 → h < W → ((u ≡ v) × (h ≡ g) → ⊥) → suc n ≤ u * W + h → look W t u h ≢ map-word.Guarded) → NoneGuardedFrom n t
      fewer t here there u h a b c = on (ℕ_discrete (u * W + h) n)
        where
          on : Dec (u * W + h ≡ n) → look W t u h ≢ map-word.Guarded
          on (yes q) = let p = index_same W u h v g b at.below (q ∙ at.index) in rw (p.0, p.1) here
          on (no q) = there u h a b (λ p. q (rw (p.0, p.1) (sym at.index))) (omega arith)

      Next : Type 0
      Next = (t : State) → WordsSound F W t → NoneShared t → NoneGuardedFrom n t → Reached F W t

      by : Dec (look W s v g ≡ map-word.Guarded) → Next → Reached F W s
      by (yes e) next =
          let put = unguarded_put s i v g at.few at.below e in
          guard_undone s i v g at.few at.below e
          (next (unguarded s i v g at.few at.below e) put.sound
          none
          (fewer (unguarded s i v g at.few at.below e)
          (λ q. let y = sym put.granule ∙ q in never cc)
          (λ u h a b c d q. free u h a b d (sym (put.granules u h b c) ∙ q))))
      by (no e) next = next s i none (fewer s e (λ u h a b c d. free u h a b d))

  pub unshared_reached : (s : State) → WordsSound F W s → NoneShared s → Reached F W s
  unshared_reached s i none = guards_reached (8 * W) (omega arith) s i none (λ v g a b c. absurd (omega (arith, index_below W v g a b)))
