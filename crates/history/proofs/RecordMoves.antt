-- The change that calls make to a record.
use mathlib.Core.Path.{◌≡◌, refl, ◌∙◌}
use mathlib.Core.Logic.{◌≢◌}
use mathlib.Core.Bool.{true, false}
use Prim.Native.Nat.{ℕ, ◌<◌}
use native.Mathlib.Omega.{arith}
use Rattle.words.proofs.Booleans.{never}
use Rattle.records.specs.Monitor.{guest_of, with_guest}
use Rattle.commands.specs.State.{State, state}
use Rattle.records.specs.declared.guest.Guest.{Guest}
use Rattle.records.proofs.MonitorLaws.{guest_put, guest_other, guests_kept}
use Rattle.history.specs.Sound.{SoundRecord, may_hold}
use Rattle.history.proofs.StateWords.{own, look, Sized, at_or_not}
use Rattle.history.proofs.WordsSound.{state_by, WordsSound, changed_sound}
use Rattle.history.proofs.NamingPairs.{here}

-- the records with one put in
pub guests_then : (P : ℕ → Guest → Type 0) {F W : ℕ} {s : State} → Sized F W s → (v : ℕ) (r : Guest) → P v r → ((u : ℕ) → u < 8 → u ≢ v → P u (guest_of s.monitor u))
    → (u : ℕ) → u < 8 → P u (guest_of (with_guest s.monitor v r) u)
guests_then P {s = s} z v r here there u h =
    at_or_not (λ w. w < 8 → P w (guest_of (with_guest s.monitor v r) w)) v u
    (λ l. rw (guest_put s.monitor v r l (omega (arith, z.guests))) here)
    (λ n l. rw (guest_other s.monitor v u r n) (there u l n))
    h

-- a record alone: what the row holds is the new guest's to hold
module _ {F W : ℕ} {s : State} (i : WordsSound F W s) (v : ℕ) (r : Guest) (sound : SoundRecord r)
    (may : (g : ℕ) → g < W → may_hold (guest_of s.monitor v) (state_by (look W s v g)) ≡ true → may_hold r (state_by (look W s v g)) ≡ true) where
  abbrev recorded : State
  recorded = state s.frames s.map (with_guest s.monitor v r)

  pub recorded_sound : WordsSound F W recorded
  unfolding own look
  recorded_sound = changed_sound i (λ k. false) (λ u h. false) (record {
    sized = record {
      bounds = i.sized.bounds;
      frame_words = i.sized.frame_words;
      map_words = i.sized.map_words;
      guests = guests_kept s.monitor v r ∙ i.sized.guests;
    };
    records = guests_then (λ u x. SoundRecord x) i.sized v r sound (λ u l n. i.records u l);
    frames_kept = λ k l q. refl;
    granules_kept = λ u h l m q. refl;
    holds_kept = λ u h l m q.
        guests_then
        (λ w x. may_hold (guest_of s.monitor w) (state_by (look W s w h)) ≡ true → may_hold x (state_by (look W s w h)) ≡ true)
        i.sized v r (may h m) (λ w a n y. y) u l;
    frames_within = λ u b h k l q o. never q;
    granules_within = λ u b h k l m q o. never q;
    frames_sound = λ k l q. never q;
    frames_named_lem = λ u b h k l q o. never q;
    granules_named = λ u b h k l m q o. never q;
    granules_held = λ u h l m q. never q;
  })
