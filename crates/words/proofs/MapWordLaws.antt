-- A map word built and taken apart is what it was built of; one taken apart and not damaged is built again.
use mathlib.Core.Path.{◌≡◌, refl, sym, ap, ◌∙◌}
use mathlib.Core.Bool.{Bool, true, false, cond, beq}
use mathlib.Core.Logic.{◌≢◌}
use Prim.Native.Nat.{ℕ, ◌+◌, ◌*◌, ◌/◌, ◌%◌, ◌<◌, ◌≤◌, ◌^◌}
use native.Mathlib.Omega.{arith}
use lib.Bits.{bit_and, bit_or, bit_xor, and_mask, xor_self}
use lib.Dec.{eqb}
use mir.Val.{bool_byte}
use borrow.Author.Tests.{eq-eqb, ne_eqb, eqb-true, eqb-false}
use Rattle.words.specs.MapWord.{map_bits, map_word_of, names_frame, bare_word, is_bare}
use Rattle.words.specs.declared.map_word.MapWord.{MapWord}
use Rattle.words.specs.declared.map_word.MapWord.TheVariants.{Vacant, Frame, Guarded, Damaged}
use Rattle.words.proofs.Booleans.{never, both_true, beq_true, beq_self, false_unless}
use Rattle.words.proofs.Packing.{packed, flipped, flipped_none}
use Rattle.words.proofs.WordTest.{by_built, by_mask}

-- what a word has room for
abbrev pub MapFits : MapWord → Type 0
MapFits Vacant = Unit {0}
MapFits (Frame s f) = f < 2 ^ 16
MapFits Guarded = Unit {0}
MapFits Damaged = Unit {0}

pub map_decode_encode : (d : MapWord) → MapFits d → map_word_of (map_bits d) ≡ d
unfolding map_bits map_word_of
map_decode_encode Vacant h = refl
map_decode_encode (Frame false f) h =
    let w = 0x40000000 + f in
    let upper : w / 2 ^ 16 ≡ 0x4000 = omega arith in
    let lower : w % 2 ^ 16 ≡ f = omega arith in
    rw (ne_eqb w 0 (λ e. omega arith), upper, lower)
map_decode_encode (Frame true f) h =
    let w = 0x80000000 + f in
    let upper : w / 2 ^ 16 ≡ 0x8000 = omega arith in
    let lower : w % 2 ^ 16 ≡ f = omega arith in
    rw (ne_eqb w 0 (λ e. omega arith), upper, lower)
map_decode_encode Guarded h = refl
map_decode_encode Damaged h = refl

pub map_encode_decode : (w : ℕ) → (map_word_of w ≡ Damaged → ⊥) → map_bits (map_word_of w) ≡ w
unfolding map_bits map_word_of
map_encode_decode w n = go (eqb w 0) refl (eqb (w / 2 ^ 16) 0x4000) refl (eqb (w / 2 ^ 16) 0x8000) refl (eqb w 0xC0000000) refl n
  where
    said : Bool → Bool → Bool → Bool → MapWord
    said a b c d = cond a Vacant (cond b (Frame false (w % 2 ^ 16)) (cond c (Frame true (w % 2 ^ 16)) (cond d Guarded Damaged)))

    go : (a : Bool) → eqb w 0 ≡ a → (b : Bool) → eqb (w / 2 ^ 16) 0x4000 ≡ b → (c : Bool) → eqb (w / 2 ^ 16) 0x8000 ≡ c → (d : Bool) → eqb w 0xC0000000 ≡ d
        → (said a b c d ≡ Damaged → ⊥) → map_bits (said a b c d) ≡ w
    go true p b q c r d s n = sym (eqb-true w 0 p)
    go false p true q c r d s n = omega (arith, eqb-true (w / 2 ^ 16) 0x4000 q)
    go false p false q true r d s n = omega (arith, eqb-true (w / 2 ^ 16) 0x8000 r)
    go false p false q false r true s n = sym (eqb-true w 0xC0000000 s)
    go false p false q false r false s n = absurd (n refl)

pub map_below : (d : MapWord) → MapFits d → map_bits d < 2 ^ 32
unfolding map_bits
map_below Vacant h = omega arith
map_below (Frame false f) h = omega arith
map_below (Frame true f) h = omega arith
map_below Guarded h = omega arith
map_below Damaged h = omega arith

pub named_frame : (s : Bool) (f : ℕ) (d : MapWord) → names_frame s f d ≡ true → d ≡ Frame s f
named_frame s f Vacant h = cc
named_frame s f (Frame t g) h =
    let p = both_true (beq s t) (eqb f g) h in
    rw (beq_true s t p.0, eqb-true f g p.1)
named_frame s f Guarded h = cc
named_frame s f Damaged h = cc

named_itself : (s : Bool) (f : ℕ) → names_frame s f (Frame s f) ≡ true
named_itself s f = rw (beq_self s, eq-eqb f f refl)

-- whether a word says a frame is one comparison, with the word built for that frame
pub names_frame_built : (s : Bool) (f : ℕ) → f < 2 ^ 16 → (w : ℕ) → names_frame s f (map_word_of w) ≡ eqb w (map_bits (Frame s f))
names_frame_built s f h =
    by_built map_bits map_word_of (names_frame s f) (Frame s f) (map_decode_encode (Frame s f) h) (named_itself s f) (named_frame s f)
    (λ w e. map_encode_decode w (λ d. never cc))

-- a word of kind 1 or 2 is a frame's, unless a bit between kind and frame is set
pub frame_said : (w : ℕ) → w / 2 ^ 30 ≢ 0 → w / 2 ^ 30 < 3 → bit_and (w / 2 ^ 16) 0x3FFF ≡ 0 → Frame (eqb (w / 2 ^ 30) 2) (w % 2 ^ 16) ≡ map_word_of w
unfolding map_word_of
frame_said w some few clear = go (eqb (w / 2 ^ 30) 2) refl
  where
    none : w / 2 ^ 16 % 2 ^ 14 ≡ 0
    none = sym (and_mask (w / 2 ^ 16) 14) ∙ clear

    go : (b : Bool) → eqb (w / 2 ^ 30) 2 ≡ b → Frame b (w % 2 ^ 16) ≡ map_word_of w
    go true e =
        let kind = eqb-true (w / 2 ^ 30) 2 e in
        rw (ne_eqb w 0 (λ z. omega arith), ne_eqb (w / 2 ^ 16) 0x4000 (λ z. omega arith), eq-eqb (w / 2 ^ 16) 0x8000 (omega (arith, none)))
    go false e =
        let kind = eqb-false (w / 2 ^ 30) 2 e in
        rw (ne_eqb w 0 (λ z. omega arith), eq-eqb (w / 2 ^ 16) 0x4000 (omega (arith, none)))

pub damaged_said : (w : ℕ) → w ≢ 0 → (w / 2 ^ 16 ≡ 0x4000 → ⊥) → (w / 2 ^ 16 ≡ 0x8000 → ⊥) → w ≢ 0xC0000000 → Damaged ≡ map_word_of w
unfolding map_word_of
damaged_said w a b c d = rw (ne_eqb w 0 a, ne_eqb (w / 2 ^ 16) 0x4000 b, ne_eqb (w / 2 ^ 16) 0x8000 c, ne_eqb w 0xC0000000 d)

-- what a word says is what a word has room for
pub map_fits : (w : ℕ) → MapFits (map_word_of w)
unfolding map_word_of
map_fits w = go (eqb w 0) (eqb (w / 2 ^ 16) 0x4000) (eqb (w / 2 ^ 16) 0x8000) (eqb w 0xC0000000)
  where
    go : (a b c d : Bool) → MapFits (cond a Vacant (cond b (Frame false (w % 2 ^ 16)) (cond c (Frame true (w % 2 ^ 16)) (cond d Guarded Damaged))))
    go true b c d = tt
    go false true c d = omega arith
    go false false true d = omega arith
    go false false false true = tt
    go false false false false = tt

pub names_no_frame : (s : Bool) (f w : ℕ) → 2 ^ 16 ≤ f → names_frame s f (map_word_of w) ≡ false
names_no_frame s f w h =
    false_unless (names_frame s f (map_word_of w)) (λ t. let fit : f < 2 ^ 16 = rw (named_frame s f (map_word_of w) t) at (map_fits w) in omega arith)

-- the code's cast of the flag makes the kind: 1 for private, 2 for shared
pub kind_few : (s : Bool) → bool_byte s < 2
kind_few true = omega arith
kind_few false = omega arith

pub frame_bits_lem : (s : Bool) (f : ℕ) → f < 2 ^ 30 → bit_or ((1 + bool_byte s) * 2 ^ 30 % 2 ^ 32) f ≡ map_bits (Frame s f)
unfolding map_bits
frame_bits_lem true f h = packed 30 2 f (omega arith) h
frame_bits_lem false f h = packed 30 1 f (omega arith) h

-- a word that says a frame is the one built for it
frame_built : (s : Bool) (f w : ℕ) → map_word_of w ≡ Frame s f → w ≡ map_bits (Frame s f)
frame_built s f w e = sym (map_encode_decode w (λ d. never cc)) ∙ ap map_bits e

-- a word without the bits of kind k is f exactly if it is f with those bits
without_kind : (k w f : ℕ) → f < 2 ^ 30 → eqb (bit_xor w (k * 2 ^ 30)) f ≡ eqb w (k * 2 ^ 30 + f)
without_kind k w f h = go (eqb w (k * 2 ^ 30 + f)) refl
  where
    split : bit_xor w (k * 2 ^ 30) ≡ bit_xor (w / 2 ^ 30) k * 2 ^ 30 + w % 2 ^ 30
    split =
        let whole : w ≡ w / 2 ^ 30 * 2 ^ 30 + w % 2 ^ 30 = omega arith in
        ap (λ (x : ℕ). bit_xor x (k * 2 ^ 30)) whole ∙ flipped 30 (w / 2 ^ 30) (w % 2 ^ 30) k (omega arith)

    go : (b : Bool) → eqb w (k * 2 ^ 30 + f) ≡ b → eqb (bit_xor w (k * 2 ^ 30)) f ≡ b
    go true e = eq-eqb (bit_xor w (k * 2 ^ 30)) f (rw (eqb-true w (k * 2 ^ 30 + f) e, flipped 30 k f k h, xor_self) (omega arith))
    go false e =
        ne_eqb (bit_xor w (k * 2 ^ 30)) f
        (λ q.
        let none : bit_xor (w / 2 ^ 30) k ≡ 0 = omega (arith, split) in
        eqb-false w (k * 2 ^ 30 + f) e (omega (arith, split, flipped_none (w / 2 ^ 30) k none)))

pub frame_in_lem : (s : Bool) (w f : ℕ) → f < 2 ^ 16 → eqb (bit_xor w ((1 + bool_byte s) * 2 ^ 30 % 2 ^ 32)) f ≡ names_frame s f (map_word_of w)
unfolding map_bits
frame_in_lem true w f h = without_kind 2 w f (omega arith) ∙ sym (names_frame_built true f h w)
frame_in_lem false w f h = without_kind 1 w f (omega arith) ∙ sym (names_frame_built false f h w)

pub map_reshared : (from to : Bool) (w f : ℕ) → map_word_of w ≡ Frame from f → (same : Bool) → beq from to ≡ same
    → cond same w (bit_xor w 0xC0000000) ≡ map_bits (Frame to f)
unfolding map_bits
map_reshared from to w f e =
    let fit : f < 2 ^ 16 = rw e at (map_fits w) in
    by_mask (λ s. map_bits (Frame s f)) 0xC0000000 (flipped 30 2 f 3 (omega arith)) (flipped 30 1 f 3 (omega arith)) from to w (frame_built from f w e)

-- whether a word says a granule without a frame is one comparison
pub bare_built : (b : Bool) (w : ℕ) → is_bare b (map_word_of w) ≡ eqb w (map_bits (bare_word b))
bare_built b = by_built map_bits map_word_of (is_bare b) (bare_word b) (there b) (passes b) (only b) (λ w e. map_encode_decode w (whole b w e))
  where
    there : (b : Bool) → map_word_of (map_bits (bare_word b)) ≡ bare_word b
    there true = map_decode_encode Guarded tt
    there false = map_decode_encode Vacant tt

    passes : (b : Bool) → is_bare b (bare_word b) ≡ true
    passes true = refl
    passes false = refl

    only : (b : Bool) (d : MapWord) → is_bare b d ≡ true → d ≡ bare_word b
    only true Vacant h = cc
    only false Vacant h = refl
    only b (Frame s f) h = cc
    only true Guarded h = refl
    only false Guarded h = cc
    only b Damaged h = cc

    whole : (b : Bool) (w : ℕ) → map_word_of w ≡ bare_word b → map_word_of w ≡ Damaged → ⊥
    whole true w e d = never cc
    whole false w e d = never cc
