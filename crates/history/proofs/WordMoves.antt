-- The kinds of change that calls make to words: a granule with its frame, a frame that is no guest's, a granule that names no frame.
use mathlib.Core.Path.{◌≡◌, refl, sym, ap, ◌∙◌}
use mathlib.Core.Logic.{◌≢◌}
use mathlib.Core.Bool.{Bool, true, false}
use Prim.Native.Nat.{ℕ, ◌+◌, ◌*◌, ◌<◌}
use native.Mathlib.Omega.{arith}
use borrow.Author.Tests.{eq-eqb, eqb-true, eqb-false}
use lib.Dec.{eqb}
use lib.ListN.{set, length-set}
use Rattle.words.specs.MapWord.{map_bits}
use Rattle.words.specs.FrameWord.{frame_bits}
use Rattle.words.specs.declared.map_word.MapWord.{MapWord}
use Rattle.words.specs.declared.map_word.MapWord.TheVariants as map-word
use Rattle.words.specs.declared.frame_word.FrameWord.{FrameWord}
use Rattle.words.specs.declared.frame_word.FrameWord.TheVariants as frame-word
use Rattle.words.proofs.MapWordLaws.{MapFits}
use Rattle.words.proofs.FrameWordLaws.{FrameFits}
use Rattle.words.proofs.Booleans.{never}
use Rattle.records.specs.Monitor.{guest_of}
use Rattle.commands.specs.State.{State, state}
use Rattle.history.specs.Sound.{may_hold}
use Rattle.history.proofs.StateWords.{own, look, Sized, at_most, index_below, frame_built, frame_other, map_built, map_other}
use Rattle.history.proofs.WordsSound.{state_by, Says, SaysBack, WordsSound, changed_sound}
use Rattle.history.proofs.NamingPairs.{NameOnlyEachOther, FrameFree, NamesNone, here, is_here, not_here, surely_here, free_sound, free_owned, none_named, free_fits, none_fits}

module _ {F W : ℕ} {s : State} (z : Sized F W s) where
  sized_put : (f i x y : ℕ) → Sized F W (state (set s.frames f x) (set s.map i y) s.monitor)
  sized_put f i x y = record {
    bounds = z.bounds;
    frame_words = length-set s.frames f x ∙ z.frame_words;
    map_words = length-set s.map i y ∙ z.map_words;
    guests = z.guests;
  }

  pair_frame_fits : (v g f : ℕ) → v < 8 → g < W → (d : FrameWord) (e : MapWord) → NameOnlyEachOther v g f d e → FrameFits d
  pair_frame_fits v g f h l frame-word.Host e t = tt
  pair_frame_fits v g f h l frame-word.Waiting e t = tt
  pair_frame_fits v g f h l (frame-word.Owned u b k) e t = let p = t.to u b k refl in (omega arith, omega (arith, at_most z))
  pair_frame_fits v g f h l frame-word.Damaged e t = tt

  pair_map_fits : (v g f : ℕ) → f < F → (d : FrameWord) (e : MapWord) → NameOnlyEachOther v g f d e → MapFits e
  pair_map_fits v g f h d map-word.Vacant t = tt
  pair_map_fits v g f h d (map-word.Frame b k) t = let p = t.from b k refl in omega (arith, at_most z)
  pair_map_fits v g f h d map-word.Guarded t = tt
  pair_map_fits v g f h d map-word.Damaged t = tt

-- frame f, alone, has the word d in t, and the invariant is kept
pub record FramePut (F W : ℕ) (s t : State) (f : ℕ) (d : FrameWord) : Type 0 where
  pub sound : WordsSound F W t
  pub frame : own t f ≡ d
  pub frames : (k : ℕ) → k ≢ f → own t k ≡ own s k

-- granule g of slot v, alone, has the word e in t, and the invariant is kept
pub record GranulePut (F W : ℕ) (s t : State) (v g : ℕ) (e : MapWord) : Type 0 where
  pub sound : WordsSound F W t
  pub granule : look W t v g ≡ e
  pub granules : (u h : ℕ) → h < W → ((u ≡ v) × (h ≡ g) → ⊥) → look W t u h ≡ look W s u h

-- a granule with its frame
module _ {F W : ℕ} {s : State} (i : WordsSound F W s) (v g f : ℕ) (hv : v < 8) (hg : g < W) (hf : f < F) (old : NameOnlyEachOther v g f (own s f) (look W s v g))
    (d : FrameWord) (e : MapWord) (new : NameOnlyEachOther v g f d e) (may : may_hold (guest_of s.monitor v) (state_by e) ≡ true) where
  abbrev paired : State
  paired = state (set s.frames f (frame_bits d)) (set s.map (v * W + g) (map_bits e)) s.monitor

  own_paired : own paired f ≡ d
  unfolding own
  own_paired = frame_built s.frames f d (omega (arith, i.sized.frame_words)) (pair_frame_fits i.sized v g f hv hg d e new)

  own_unpaired : (k : ℕ) → k ≢ f → own paired k ≡ own s k
  unfolding own
  own_unpaired k n = frame_other s.frames f k d n

  look_paired : look W paired v g ≡ e
  unfolding look
  look_paired = map_built s.map W v g e (omega (arith, i.sized.map_words, index_below W v g hv hg)) (pair_map_fits i.sized v g f hf d e new)

  look_unpaired : (u h : ℕ) → h < W → ((u ≡ v) × (h ≡ g) → ⊥) → look W paired u h ≡ look W s u h
  unfolding look
  look_unpaired u h l n = map_other s.map W v g u h e hg l n

  -- what is known of the frame and the granule holds of whatever has their numbers
  frame_is : (k : ℕ) → eqb k f ≡ true → own paired k ≡ d
  frame_is k q = rw (eqb-true k f q) own_paired

  granule_is : (u h : ℕ) → (u ≡ v) × (h ≡ g) → look W paired u h ≡ e
  granule_is u h p = rw (p.0, p.1) look_paired

  named : (u : ℕ) (b : Bool) (h k : ℕ) → k < F → eqb k f ≡ true → own paired k ≡ frame-word.Owned u b h → Says W paired u b h k
  named u b h k l q o =
      let p = new.to u b h (sym (frame_is k q) ∙ o) in
      (omega arith, omega arith, granule_is u h (p.0, p.1) ∙ p.2 ∙ ap (map-word.Frame b) (sym (eqb-true k f q)))

  named_back : (u : ℕ) (b : Bool) (h k : ℕ) → here v g u h ≡ true → look W paired u h ≡ map-word.Frame b k → SaysBack F paired u b h k
  named_back u b h k q o =
      let p = is_here v g u h q in
      let r = new.from b k (sym (granule_is u h p) ∙ o) in
      (omega arith, frame_is k (eq-eqb k f r.0) ∙ rw (p.0, p.1) r.1)

  paired_sound : WordsSound F W paired
  paired_sound = changed_sound i (λ k. eqb k f) (here v g) (record {
    sized = sized_put i.sized f (v * W + g) (frame_bits d) (map_bits e);
    records = i.records;
    frames_kept = λ k l q. own_unpaired k (eqb-false k f q);
    granules_kept = λ u h l m q. look_unpaired u h m (not_here v g u h q);
    holds_kept = λ u h l m q r. r;
    frames_within = λ u b h k l q o. let p = old.to u b h (rw (← (eqb-true k f q)) o) in surely_here v g u h p.0 p.1;
    granules_within = λ u b h k l m q o.
        let p = is_here v g u h q in
        eq-eqb k f (old.from b k (rw (← p.0, ← p.1) o)).0;
    frames_sound = λ k l q. rw (frame_is k q) new.whole;
    frames_named_lem = named;
    granules_named = λ u b h k l m q o. named_back u b h k q o;
    granules_held = λ u h l m q. let p = is_here v g u h q in rw (granule_is u h p, p.0) may;
  })

  pub pair_put : FramePut F W s paired f d × GranulePut F W s paired v g e
  pair_put = (record { sound = paired_sound; frame = own_paired; frames = own_unpaired }, record { sound = paired_sound; granule = look_paired; granules = look_unpaired })

-- a frame that is no guest's, before and after
module _ {F W : ℕ} {s : State} (i : WordsSound F W s) (f : ℕ) (hf : f < F) (old : FrameFree (own s f)) (d : FrameWord) (new : FrameFree d) where
  abbrev freed : State
  freed = state (set s.frames f (frame_bits d)) s.map s.monitor

  own_freed : own freed f ≡ d
  unfolding own
  own_freed = frame_built s.frames f d (omega (arith, i.sized.frame_words)) (free_fits d new)

  own_unfreed : (k : ℕ) → k ≢ f → own freed k ≡ own s k
  unfolding own
  own_unfreed k n = frame_other s.frames f k d n

  freed_is : (k : ℕ) → eqb k f ≡ true → own freed k ≡ d
  freed_is k q = rw (eqb-true k f q) own_freed

  freed_sound : WordsSound F W freed
  unfolding look
  freed_sound = changed_sound i (λ k. eqb k f) (λ u h. false) (record {
    sized = record {
      bounds = i.sized.bounds;
      frame_words = length-set s.frames f (frame_bits d) ∙ i.sized.frame_words;
      map_words = i.sized.map_words;
      guests = i.sized.guests;
    };
    records = i.records;
    frames_kept = λ k l q. own_unfreed k (eqb-false k f q);
    granules_kept = λ u h l m q. refl;
    holds_kept = λ u h l m q r. r;
    frames_within = λ u b h k l q o. absurd (free_owned (own s f) old u b h (rw (← (eqb-true k f q)) o));
    granules_within = λ u b h k l m q o. never q;
    frames_sound = λ k l q. rw (freed_is k q) (free_sound d new);
    frames_named_lem = λ u b h k l q o. absurd (free_owned d new u b h (sym (freed_is k q) ∙ o));
    granules_named = λ u b h k l m q o. never q;
    granules_held = λ u h l m q. never q;
  })

  pub frame_put : FramePut F W s freed f d
  frame_put = record { sound = freed_sound; frame = own_freed; frames = own_unfreed }

-- a granule that names no frame, before and after
module _ {F W : ℕ} {s : State} (i : WordsSound F W s) (v g : ℕ) (hv : v < 8) (hg : g < W) (old : NamesNone (look W s v g)) (e : MapWord) (new : NamesNone e)
    (may : may_hold (guest_of s.monitor v) (state_by e) ≡ true) where
  abbrev bared : State
  bared = state s.frames (set s.map (v * W + g) (map_bits e)) s.monitor

  look_bared : look W bared v g ≡ e
  unfolding look
  look_bared = map_built s.map W v g e (omega (arith, i.sized.map_words, index_below W v g hv hg)) (none_fits e new)

  look_unbared : (u h : ℕ) → h < W → ((u ≡ v) × (h ≡ g) → ⊥) → look W bared u h ≡ look W s u h
  unfolding look
  look_unbared u h l n = map_other s.map W v g u h e hg l n

  bared_is : (u h : ℕ) → here v g u h ≡ true → look W bared u h ≡ e
  bared_is u h q = let p = is_here v g u h q in rw (p.0, p.1) look_bared

  bared_sound : WordsSound F W bared
  unfolding own
  bared_sound = changed_sound i (λ k. false) (here v g) (record {
    sized = record {
      bounds = i.sized.bounds;
      frame_words = i.sized.frame_words;
      map_words = length-set s.map (v * W + g) (map_bits e) ∙ i.sized.map_words;
      guests = i.sized.guests;
    };
    records = i.records;
    frames_kept = λ k l q. refl;
    granules_kept = λ u h l m q. look_unbared u h m (not_here v g u h q);
    holds_kept = λ u h l m q r. r;
    frames_within = λ u b h k l q o. never q;
    granules_within = λ u b h k l m q o.
        let p = is_here v g u h q in
        absurd (none_named (look W s v g) old b k (rw (← p.0, ← p.1) o));
    frames_sound = λ k l q. never q;
    frames_named_lem = λ u b h k l q o. never q;
    granules_named = λ u b h k l m q o. absurd (none_named e new b k (sym (bared_is u h q) ∙ o));
    granules_held = λ u h l m q. rw (bared_is u h q, (is_here v g u h q).0) may;
  })

  pub granule_put : GranulePut F W s bared v g e
  granule_put = record { sound = bared_sound; granule = look_bared; granules = look_unbared }
