-- Two sound states of which the same is seen are one; and a word or record put back is as if it had not been changed.
use mathlib.Core.Path.{◌≡◌, sym, ap, ◌∙◌}
use mathlib.Core.Logic.{◌≢◌}
use Prim.Native.Nat.{ℕ, zero, suc, ◌+◌, ◌*◌, ◌-◌, ◌<◌}
use native.Mathlib.Decide.{dec_lt}
use native.Mathlib.Omega.{arith}
use borrow.Author.Tests.{lt-ltb}
use lib.ListN.{get_or, set}
use lib.Seq.{ext_get_or, set-get_or, set-set}
use Rattle.words.specs.MapWord.{map_bits}
use Rattle.words.specs.FrameWord.{frame_bits}
use Rattle.words.specs.declared.map_word.MapWord.{MapWord}
use Rattle.words.specs.declared.map_word.MapWord.TheVariants as map-word
use Rattle.words.specs.declared.frame_word.FrameWord.{FrameWord}
use Rattle.words.proofs.MapWordLaws.{map_encode_decode}
use Rattle.words.proofs.FrameWordLaws.{frame_encode_decode}
use Rattle.words.proofs.Booleans.{never}
use Rattle.records.specs.Monitor.{zero_guest, guest_of, with_guest}
use Rattle.commands.specs.State.{State, state}
use Rattle.records.specs.declared.guest.Guest.{Guest}
use Rattle.records.specs.declared.monitor.Monitor.{Monitor}
use Rattle.records.proofs.MonitorLaws.{put_again}
use Rattle.history.proofs.StateWords.{own, look}
use Rattle.history.proofs.WordsSound.{WordsSound}

-- every word of n rows is that of a granule of a slot
pub record Placed (n W i : ℕ) : Type 0 where
  pub slot : ℕ
  pub granule : ℕ
  pub few : slot < n
  pub below : granule < W
  pub index : i ≡ slot * W + granule

pub placed : (n W i : ℕ) → i < n * W → Placed n W i
placed zero W i h = absurd (omega arith)
placed (suc n) W i h = on (dec_lt i (n * W)) (λ l. placed n W i l)
  where
    on : Dec (i < n * W) → (i < n * W → Placed n W i) → Placed (suc n) W i
    on (yes l) more =
        let p = more l in
        record { slot = p.slot; granule = p.granule; few = omega (arith, p.few); below = p.below; index = p.index }
    on (no l) more = record { slot = n; granule = i - n * W; few = omega arith; below = omega arith; index = omega arith }

module _ {F W : ℕ} {s : State} (i : WordsSound F W s) where
  look_whole : (v g : ℕ) → v < 8 → g < W → look W s v g ≢ map-word.Damaged
  look_whole v g h l e =
      never (rw e at (i.holds v g h l))

  frame_bits_lem : (f : ℕ) → f < F → get_or s.frames f 0 ≡ frame_bits (own s f)
  unfolding own
  frame_bits_lem f h = sym (frame_encode_decode (get_or s.frames f 0) (i.whole f h))

  map_bits_lem : (v g : ℕ) → v < 8 → g < W → get_or s.map (v * W + g) 0 ≡ map_bits (look W s v g)
  unfolding look
  map_bits_lem v g h l = sym (map_encode_decode (get_or s.map (v * W + g) 0) (look_whole v g h l))

  -- put back
  pub frame_back : (f x : ℕ) (d : FrameWord) → f < F → own s f ≡ d → set (set s.frames f x) f (frame_bits d) ≡ s.frames
  frame_back f x d h e =
      set-set s.frames f x (frame_bits d) ∙ ap (set s.frames f) (ap frame_bits (sym e) ∙ sym (frame_bits_lem f h)) ∙ set-get_or s.frames f 0

  pub map_back : (v g x : ℕ) (d : MapWord) → v < 8 → g < W → look W s v g ≡ d → set (set s.map (v * W + g) x) (v * W + g) (map_bits d) ≡ s.map
  map_back v g x d h l e =
      set-set s.map (v * W + g) x (map_bits d) ∙ ap (set s.map (v * W + g)) (ap map_bits (sym e) ∙ sym (map_bits_lem v g h l)) ∙ set-get_or s.map (v * W + g) 0

guest_at_lem : (m : Monitor) (v : ℕ) → v < 8 → guest_of m v ≡ get_or m.guests v zero_guest
unfolding guest_of
guest_at_lem m v h = rw (lt-ltb v 8 h)

pub guest_same : (m : Monitor) (v : ℕ) (g : Guest) → v < 8 → guest_of m v ≡ g → with_guest m v g ≡ m
unfolding with_guest
guest_same m v g h e =
    let is : get_or m.guests v zero_guest ≡ g = sym (guest_at_lem m v h) ∙ e in
    rw (lt-ltb v 8 h, ← is, set-get_or m.guests v zero_guest)

pub guest_back : (m : Monitor) (v : ℕ) (r g : Guest) → v < 8 → guest_of m v ≡ g → with_guest (with_guest m v r) v g ≡ m
guest_back m v r g h e = put_again m v r g ∙ guest_same m v g h e

module _ {F W : ℕ} {s t : State} (i : WordsSound F W s) (j : WordsSound F W t) where
  pub same_state : ((f : ℕ) → f < F → own s f ≡ own t f) → ((v g : ℕ) → v < 8 → g < W → look W s v g ≡ look W t v g)
      → ((v : ℕ) → v < 8 → guest_of s.monitor v ≡ guest_of t.monitor v) → s ≡ t
  same_state owners granules guests =
      let frames : s.frames ≡ t.frames =
      ext_get_or 0 s.frames t.frames (i.sized.frame_words ∙ sym j.sized.frame_words) (λ f h.
      let l : f < F = omega (arith, i.sized.frame_words) in
      frame_bits_lem i f l ∙ ap frame_bits (owners f l) ∙ sym (frame_bits_lem j f l)) in
      let map : s.map ≡ t.map =
      ext_get_or 0 s.map t.map (i.sized.map_words ∙ sym j.sized.map_words) (λ k h.
      let p = placed 8 W k (omega (arith, i.sized.map_words)) in
      rw p.index (map_bits_lem i p.slot p.granule p.few p.below ∙ ap map_bits (granules p.slot p.granule p.few p.below) ∙ sym (map_bits_lem j p.slot p.granule p.few p.below))) in
      let records : s.monitor.guests ≡ t.monitor.guests =
      ext_get_or zero_guest s.monitor.guests t.monitor.guests (i.sized.guests ∙ sym j.sized.guests) (λ v h.
      let l : v < 8 = omega (arith, i.sized.guests) in
      sym (guest_at_lem s.monitor v l) ∙ guests v l ∙ guest_at_lem t.monitor v l) in
      let same : state s.frames s.map (record { guests = s.monitor.guests }) ≡ state t.frames t.map (record { guests = t.monitor.guests }) =
      rw (frames, map, records) in
      same
