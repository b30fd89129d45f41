-- A removal: the row of one slot becomes vacant, and each frame that it held waits.
use mathlib.Core.Path.{◌≡◌, refl, sym, ap, ◌∙◌}
use mathlib.Core.Logic.{◌≢◌}
use mathlib.Core.Bool.{Bool, true, false, cond}
use mathlib.Core.List.{List}
use Prim.Native.Nat.{ℕ, suc, ◌+◌, ◌*◌, ◌<◌, ◌≤◌}
use native.Mathlib.Decide.{dec_lt}
use native.Mathlib.Nat.{mul-le-mul_right}
use native.Mathlib.Omega.{arith}
use borrow.Author.Tests.{eq-eqb, eqb-true, eqb-false}
use lib.Dec.{eqb}
use lib.ListN.{length, get_or, length-replicate, get_or-replicate}
use Rattle.words.specs.MapWord.{map_bits, map_word_of}
use Rattle.words.specs.FrameWord.{frame_word_of}
use Rattle.words.specs.declared.map_word.MapWord.TheVariants as map-word
use Rattle.words.specs.declared.frame_word.FrameWord.{FrameWord}
use Rattle.words.specs.declared.frame_word.FrameWord.TheVariants as frame-word
use Rattle.words.proofs.MapWordLaws.{map_decode_encode}
use Rattle.words.proofs.FrameWordLaws.{frame_decode_encode}
use Rattle.words.proofs.Booleans.{never}
use Rattle.tables.specs.Row.{row_of, with_row}
use Rattle.tables.proofs.RowLaws.{bounds_slot, row_length, row_word}
use Rattle.records.specs.Monitor.{zero_guest, with_guest}
use Rattle.commands.specs.State.{State, state}
use Rattle.records.proofs.MonitorLaws.{guest_other, guests_kept}
use Rattle.rows.specs.WholeRow.{vacant_row, frames_freed}
use Rattle.history.specs.Sound.{SoundRecord}
use Rattle.history.proofs.StateWords.{own, look, width_is}
use Rattle.history.proofs.WordsSound.{WordsSound, changed_sound}
use Rattle.history.proofs.RecordMoves.{guests_then}
use Rattle.history.proofs.RecordLaws.{zero_sound}
use Rattle.history.proofs.FreedRow.{put, put_length, put_before, put_within, put_after, freed_length, freed_named, freed_other}
use Rattle.history.proofs.FramesAtGranules.{owner_where}

-- whether slot v owns a frame
abbrev owned_by : ℕ → FrameWord → Bool
owned_by v frame-word.Host = false
owned_by v frame-word.Waiting = false
owned_by v (frame-word.Owned u b g) = eqb u v
owned_by v frame-word.Damaged = false

owner_is : (v : ℕ) (d : FrameWord) → owned_by v d ≡ true → (b : Bool) × (g : ℕ) × (d ≡ frame-word.Owned v b g)
owner_is v frame-word.Host h = never h
owner_is v frame-word.Waiting h = never h
owner_is v (frame-word.Owned u b g) h = (b, g, rw (eqb-true u v h))
owner_is v frame-word.Damaged h = never h

owner_not : (v : ℕ) (d : FrameWord) → owned_by v d ≡ false → (b : Bool) (g : ℕ) → d ≢ frame-word.Owned v b g
owner_not v d h b g e =
    let t : owned_by v d ≡ true = rw e (eq-eqb v v refl) in
    never (sym h ∙ t)

-- the word of a frame when the guest in slot v is gone
abbrev pub owner_gone : ℕ → FrameWord → FrameWord
owner_gone v d = owner_where (λ u h. eqb u v) (λ u h. frame-word.Waiting) d

owner_held : (v : ℕ) (d : FrameWord) → cond (owned_by v d) frame-word.Waiting d ≡ owner_gone v d
owner_held v frame-word.Host = refl
owner_held v frame-word.Waiting = refl
owner_held v (frame-word.Owned u b g) = refl
owner_held v frame-word.Damaged = refl

module _ {F W : ℕ} {s : State} (i : WordsSound F W s) (v : ℕ) (hv : v < 8) where
  abbrev row : List ℕ
  row = row_of s.map v

  abbrev gone : State
  gone = state (frames_freed row s.frames) (with_row s.map v (vacant_row (length row))) (with_guest s.monitor v zero_guest)

  width : length row ≡ W
  width = row_length s.map v hv ∙ width_is i.sized

  pub says_row : (g : ℕ) → g < W → map_word_of (get_or row g 0) ≡ look W s v g
  unfolding look
  says_row g h = ap map_word_of (row_word s.map v g hv (omega (arith, width_is i.sized)) ∙ rw (width_is i.sized))

  own_gone : (f : ℕ) → f < F → (x : Bool) → owned_by v (own s f) ≡ x → own gone f ≡ cond x frame-word.Waiting (own s f)
  unfolding own
  own_gone f h true e =
      let p = owner_is v (own s f) e in
      let n = i.says v p.0 p.1 f h p.2 in
      rw (freed_named row s.frames f p.1 p.0 (omega (arith, i.sized.frame_words)) (omega (arith, width)) (says_row p.1 n.1 ∙ n.2))
      (frame_decode_encode frame-word.Waiting tt)
  own_gone f h false e =
      ap frame_word_of
      (freed_other row s.frames f (λ g b l q.
      owner_not v (own s f) e b g (i.says_back v b g f hv (omega (arith, width)) (sym (says_row g (omega (arith, width))) ∙ q)).1))

  pub owners_gone : (f : ℕ) → f < F → own gone f ≡ owner_gone v (own s f)
  owners_gone f h = own_gone f h (owned_by v (own s f)) refl ∙ owner_held v (own s f)

  abbrev vacant : List ℕ
  vacant = vacant_row W

  wide : length vacant ≡ W
  wide = length-replicate W (map_bits map-word.Vacant)

  inside : v * W + length vacant ≤ length s.map
  inside = omega (arith, wide, i.sized.map_words, mul-le-mul_right {m = v} {n = 7} W (omega arith))

  gone_map : with_row s.map v (vacant_row (length row)) ≡ put s.map vacant (v * W) inside
  gone_map = rw (wide, width, bounds_slot (length s.map) v hv, width_is i.sized)

  pub look_gone : (g : ℕ) → g < W → look W gone v g ≡ map-word.Vacant
  unfolding look
  look_gone g h =
      rw (gone_map, put_within s.map vacant (v * W) inside g (omega (arith, wide)), get_or-replicate {A = ℕ} W g (map_bits map-word.Vacant) 0 h)
      (map_decode_encode map-word.Vacant tt)

  pub look_there : (u g : ℕ) → g < W → u ≢ v → look W gone u g ≡ look W s u g
  unfolding look
  look_there u g h n = ap map_word_of (rw gone_map (go (dec_lt u v)))
    where
      go : Dec (u < v) → get_or (put s.map vacant (v * W) inside) (u * W + g) 0 ≡ get_or s.map (u * W + g) 0
      go (yes l) = put_before s.map vacant (v * W) inside (u * W + g) (omega (arith, mul-le-mul_right W l))
      go (no m) = put_after s.map vacant (v * W) inside (u * W + g) (omega (arith, wide, mul-le-mul_right {m = suc v} {n = u} W (omega arith)))

  slot_gone : (u g : ℕ) → g < W → eqb u v ≡ true → look W gone u g ≡ map-word.Vacant
  slot_gone u g h e = rw (eqb-true u v e) (look_gone g h)

  -- no frame is named from a vacant granule
  unnamed : (u : ℕ) (b : Bool) (g f : ℕ) → g < W → eqb u v ≡ true → look W gone u g ≡ map-word.Frame b f → ⊥
  unnamed u b g f h e o =
      let vacant : look W gone u g ≡ map-word.Vacant = slot_gone u g h e in
      never cc

  frame_gone : (f : ℕ) → f < F → owned_by v (own s f) ≡ true → own gone f ≡ frame-word.Waiting
  frame_gone f h e = own_gone f h true e

  pub gone_sound : WordsSound F W gone
  gone_sound = changed_sound i (λ f. owned_by v (own s f)) (λ u g. eqb u v) (record {
    sized = record {
      bounds = i.sized.bounds;
      frame_words = freed_length row s.frames ∙ i.sized.frame_words;
      map_words = ap {A = List ℕ} length gone_map ∙ put_length s.map vacant (v * W) inside ∙ i.sized.map_words;
      guests = guests_kept s.monitor v zero_guest ∙ i.sized.guests;
    };
    records = guests_then (λ u x. SoundRecord x) i.sized v zero_guest zero_sound (λ u l n. i.records u l);
    frames_kept = λ f h e. own_gone f h false e;
    granules_kept = λ u g l h e. look_there u g h (eqb-false u v e);
    holds_kept = λ u g l h e r. rw (guest_other s.monitor v u zero_guest (eqb-false u v e)) r;
    frames_within = λ u b g f h e o. rw o at e;
    granules_within = λ u b g f l h e o. rw (i.says_back u b g f l h o).1 e;
    frames_sound = λ f h e q. let y : frame-word.Waiting ≡ frame-word.Damaged = sym (frame_gone f h e) ∙ q in never cc;
    frames_named_lem = λ u b g f h e o. let y : frame-word.Waiting ≡ frame-word.Owned u b g = sym (frame_gone f h e) ∙ o in never cc;
    granules_named = λ u b g f l h e o. absurd (unnamed u b g f h e o);
    granules_held = λ u g l h e. rw (slot_gone u g h e);
  })
