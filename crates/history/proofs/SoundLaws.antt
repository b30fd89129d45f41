-- The invariant by the pair tests is the invariant by what the words say.
use mathlib.Core.Path.{◌≡◌, refl, ◌∙◌}
use mathlib.Core.Logic.{◌≢◌}
use mathlib.Core.Bool.{Bool, true, false, cond, ◌&&◌}
use Prim.Native.Nat.{ℕ, ◌*◌, ◌%◌, ◌<◌}
use native.Mathlib.Omega.{arith}
use borrow.Author.Tests.{lt-ltb, eq-eqb, eqb-true}
use lib.Dec.{leb, eqb}
use lib.ListN.{length, get_or}
use Rattle.words.specs.declared.map_word.MapWord.{MapWord}
use Rattle.words.specs.declared.map_word.MapWord.TheVariants as map-word
use Rattle.words.specs.declared.frame_word.FrameWord.{FrameWord}
use Rattle.words.specs.declared.frame_word.FrameWord.TheVariants as frame-word
use Rattle.words.proofs.Booleans.{both_true, beq_self, never}
use Rattle.words.proofs.FrameWordLaws.{frame_fits}
use Rattle.tables.specs.Length.{width_of, frames_hold, map_holds}
use Rattle.pairs.specs.Pair.{frame_names_back, granule_state, pair_at, granule_names_back, frame_state, pair_of, frame_undamaged}
use Rattle.pairs.specs.declared.pairs.GranuleState.TheVariants as granule-state
use Rattle.pairs.specs.declared.pairs.FrameState.{FrameState}
use Rattle.pairs.specs.declared.pairs.FrameState.TheVariants as frame-state
use Rattle.pairs.proofs.Found.{granule_names, frame_names}
use Rattle.records.specs.Monitor.{guest_of}
use Rattle.commands.specs.State.{State}
use Rattle.records.specs.declared.guest.Guest.{Guest}
use Rattle.history.specs.Sound.{may_hold, Sound}
use Rattle.history.proofs.StateWords.{own, look, Sized, lengths_hold_lem, width_is}
use Rattle.history.proofs.WordsSound.{state_by, Says, SaysBack, WordsSound}

module _ {F W : ℕ} {s : State} (z : Sized F W s) where
  -- a granule that is there is in the state that its word gives it, if the frame that it says says it back
  pub pair_seen : (v g : ℕ) → v < 8 → g < W → pair_at s.frames s.map v g ≡ granule_state s.frames v g (look W s v g)
  unfolding pair_at look
  pair_seen v g h l = rw (width_is z, lt-ltb v 8 h, lt-ltb g W l)

  frame_seen : (f : ℕ) → f < F → pair_of s.frames s.map f ≡ frame_state s.map f (own s f)
  unfolding pair_of own
  frame_seen f h = rw (z.frame_words, lt-ltb f F h)

  named_frame_back : (v : ℕ) (b : Bool) (g f : ℕ) → SaysBack F s v b g f → granule_state s.frames v g (map-word.Frame b f) ≡ granule-state.Frame b f
  unfolding granule_state own
  named_frame_back v b g f p = rw (z.frame_words, lt-ltb f F p.0, p.1, eq-eqb v v refl, beq_self b, eq-eqb g g refl)

  named_granule_back : (v : ℕ) (b : Bool) (g f : ℕ) → Says W s v b g f → frame_state s.map f (frame-word.Owned v b g) ≡ frame-state.Owned v b g
  unfolding frame_state look
  named_granule_back v b g f p = rw (width_is z, lt-ltb g W p.1, p.2, beq_self b, eq-eqb f f refl)

-- what is found of a granule or a frame, in states that agree
module _ {F W : ℕ} {s : State} (i : WordsSound F W s) where
  granule_by : (v g : ℕ) → v < 8 → g < W → (d : MapWord) → look W s v g ≡ d → granule_state s.frames v g d ≡ state_by d
  unfolding granule_state
  granule_by v g h l map-word.Vacant e = refl
  granule_by v g h l (map-word.Frame b f) e = named_frame_back i.sized v b g f (i.says_back v b g f h l e)
  granule_by v g h l map-word.Guarded e = refl
  granule_by v g h l map-word.Damaged e = refl

  pub granule_found : (v g : ℕ) → v < 8 → g < W → pair_at s.frames s.map v g ≡ state_by (look W s v g)
  granule_found v g h l = pair_seen i.sized v g h l ∙ granule_by v g h l (look W s v g) refl

  pub granule_sound : (v g : ℕ) → v < 8 → g < W → may_hold (guest_of s.monitor v) (pair_at s.frames s.map v g) ≡ true
  granule_sound v g h l = rw (granule_found v g h l) (i.holds v g h l)

-- the state of a frame whose word is named back
abbrev pub frame_by : FrameWord → FrameState
frame_by frame-word.Host = frame-state.Host
frame_by frame-word.Waiting = frame-state.Waiting
frame_by (frame-word.Owned v b g) = frame-state.Owned v b g
frame_by frame-word.Damaged = frame-state.Damaged

module _ {F W : ℕ} {s : State} (i : WordsSound F W s) where
  frame_by_lem : (f : ℕ) → f < F → (d : FrameWord) → own s f ≡ d → frame_state s.map f d ≡ frame_by d
  unfolding frame_state
  frame_by_lem f h frame-word.Host e = refl
  frame_by_lem f h frame-word.Waiting e = refl
  frame_by_lem f h (frame-word.Owned v b g) e = named_granule_back i.sized v b g f (i.says v b g f h e)
  frame_by_lem f h frame-word.Damaged e = refl

  pub frame_found : (f : ℕ) → f < F → pair_of s.frames s.map f ≡ frame_by (own s f)
  frame_found f h = frame_seen i.sized f h ∙ frame_by_lem f h (own s f) refl

  undamaged_by : (d : FrameWord) → d ≢ frame-word.Damaged → frame_undamaged (frame_by d) ≡ true
  undamaged_by frame-word.Host n = refl
  undamaged_by frame-word.Waiting n = refl
  undamaged_by (frame-word.Owned v b g) n = refl
  undamaged_by frame-word.Damaged n = absurd (n refl)

  pub frame_sound : (f : ℕ) → f < F → frame_undamaged (pair_of s.frames s.map f) ≡ true
  frame_sound f h = rw (frame_found f h) (undamaged_by (own s f) (i.whole f h))

  pub words_sound : Sound s
  words_sound = record {
    lengths = lengths_hold_lem i.sized;
    slots = i.sized.guests;
    records = i.records;
    granules = λ v g h l. granule_sound i v g h (omega (arith, width_is i.sized));
    frames = λ f h. frame_sound f (omega (arith, i.sized.frame_words));
  }

-- the other way: each is there and undamaged, so it was named back
owned_kept : (x : Bool) (v : ℕ) (b : Bool) (g : ℕ) → frame_undamaged (cond x (frame-state.Owned v b g) frame-state.Damaged) ≡ true
    → frame-state.Owned v b g ≡ cond x (frame-state.Owned v b g) frame-state.Damaged
owned_kept true v b g h = refl
owned_kept false v b g h = never h

frame_held : (x : Bool) (guest : Guest) (b : Bool) (f : ℕ) → may_hold guest (cond x (granule-state.Frame b f) granule-state.Damaged) ≡ true
    → granule-state.Frame b f ≡ cond x (granule-state.Frame b f) granule-state.Damaged
frame_held true guest b f h = refl
frame_held false guest b f h = never h

eight_rows : (n : ℕ) → map_holds n ≡ true → n ≡ 8 * width_of n
unfolding map_holds
eight_rows n h = omega (arith, eqb-true (n % 8) 0 (both_true (eqb (n % 8) 0) (leb 1 (width_of n) && leb (width_of n) 4096) h).0)

module _ {s : State} (k : Sound s) where
  abbrev F : ℕ
  F = length s.frames

  abbrev W : ℕ
  W = width_of (length s.map)

  eights : length s.map ≡ 8 * W
  eights = eight_rows (length s.map) (both_true (frames_hold F) (map_holds (length s.map)) k.lengths).1

  sized : Sized F W s
  sized = record { bounds = rw (← eights) k.lengths; frame_words = refl; map_words = eights; guests = k.slots }

  frame_whole : (f : ℕ) → f < F → (d : FrameWord) → own s f ≡ d → d ≢ frame-word.Damaged
  unfolding frame_state
  frame_whole f h d e q =
      let u : frame_undamaged (frame_state s.map f (own s f)) ≡ true = rw (← (frame_seen sized f h)) (k.frames f h) in
      never (rw (e, q) at u)

  says : (v : ℕ) (b : Bool) (g f : ℕ) → f < F → own s f ≡ frame-word.Owned v b g → Says W s v b g f
  unfolding own look frame_state
  says v b g f h e =
      let u : frame_undamaged (frame_state s.map f (own s f)) ≡ true = rw (← (frame_seen sized f h)) (k.frames f h) in
      let o = owned_kept (granule_names_back s.map v b g f) v b g (rw e at u) in
      let n = frame_names s.map f v g b o in
      let fits = rw e at (frame_fits (get_or s.frames f 0)) in
      (fits.0, n.0, n.1)

  held : (v g : ℕ) → v < 8 → g < W → (d : MapWord) → look W s v g ≡ d → may_hold (guest_of s.monitor v) (granule_state s.frames v g d) ≡ true
  held v g h l d e = rw (← e) (rw (← (pair_seen sized v g h l)) (k.granules v g h l))

  says_back : (v : ℕ) (b : Bool) (g f : ℕ) → v < 8 → g < W → look W s v g ≡ map-word.Frame b f → SaysBack F s v b g f
  unfolding own granule_state
  says_back v b g f h l e =
      granule_names s.frames v g b f
      (frame_held (frame_names_back s.frames v b g f) (guest_of s.monitor v) b f (held v g h l (map-word.Frame b f) e))

  holds_by : (v g : ℕ) → v < 8 → g < W → (d : MapWord) → look W s v g ≡ d → may_hold (guest_of s.monitor v) (state_by d) ≡ true
  unfolding granule_state
  holds_by v g h l map-word.Vacant e = refl
  holds_by v g h l (map-word.Frame b f) e =
      let m = held v g h l (map-word.Frame b f) e in
      rw (← (frame_held (frame_names_back s.frames v b g f) (guest_of s.monitor v) b f m)) at m
  holds_by v g h l map-word.Guarded e = held v g h l map-word.Guarded e
  holds_by v g h l map-word.Damaged e = held v g h l map-word.Damaged e

  pub sound_words : WordsSound F W s
  sound_words = record {
    sized = sized;
    records = k.records;
    whole = λ f h. frame_whole f h (own s f) refl;
    says = says;
    says_back = says_back;
    holds = λ v g h l. holds_by v g h l (look W s v g) refl;
  }
