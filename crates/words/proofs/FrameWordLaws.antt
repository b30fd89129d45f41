-- A frame word built and taken apart is what it was built of; one taken apart and not damaged is built again.
use mathlib.Core.Path.{◌≡◌, refl, sym, ap, ◌∙◌}
use mathlib.Core.Bool.{Bool, true, false, cond, ◌&&◌, beq}
use Prim.Native.Nat.{ℕ, ◌+◌, ◌*◌, ◌-◌, ◌/◌, ◌%◌, ◌<◌, ◌≤◌, ◌^◌}
use native.Mathlib.Omega.{arith}
use lib.Bits.{bit_and, bit_xor, and_mask, xor_block, xor_zero_r}
use lib.Dec.{eqb, leb}
use mir.Val.{bool_byte}
use borrow.Author.Tests.{eq-eqb, ne_eqb, le-leb, eqb-true, eqb-false, leb-true}
use Rattle.words.specs.FrameWord.{sharing_byte, frame_bits, owned_by, frame_word_of, names_granule}
use Rattle.words.specs.declared.frame_word.FrameWord.{FrameWord}
use Rattle.words.specs.declared.frame_word.FrameWord.TheVariants.{Host, Waiting, Owned, Damaged}
use Rattle.words.proofs.Booleans.{never, both_true, beq_true, beq_self, false_unless}
use Rattle.words.proofs.Packing.{flipped}
use Rattle.words.proofs.WordTest.{by_built, by_mask}

-- what a word has room for
abbrev pub FrameFits : FrameWord → Type 0
FrameFits Host = Unit {0}
FrameFits Waiting = Unit {0}
FrameFits (Owned v s g) = (v < 8) × (g < 2 ^ 16)
FrameFits Damaged = Unit {0}

pub sharing_bit : (s : Bool) → sharing_byte s ≤ 1
sharing_bit true = omega arith
sharing_bit false = omega arith

shared_again : (s : Bool) → eqb (sharing_byte s) 1 ≡ s
shared_again true = refl
shared_again false = refl

sharing_again : (b : ℕ) → b ≤ 1 → sharing_byte (eqb b 1) ≡ b
sharing_again b h = go (eqb b 1) refl
  where
    go : (t : Bool) → eqb b 1 ≡ t → sharing_byte t ≡ b
    go true e = sym (eqb-true b 1 e)
    go false e = omega (arith, eqb-false b 1 e)

pub frame_decode_encode : (d : FrameWord) → FrameFits d → frame_word_of (frame_bits d) ≡ d
unfolding frame_bits frame_word_of
frame_decode_encode Host h = refl
frame_decode_encode Waiting h = refl
frame_decode_encode (Owned v s g) h =
    let b = sharing_byte s in
    let few : b ≤ 1 = sharing_bit s in
    let w = (v + 1) * 2 ^ 24 + (b * 2 ^ 16 + g) in
    let owner : w / 2 ^ 24 ≡ v + 1 = omega arith in
    let sharing : w / 2 ^ 16 % 2 ^ 8 ≡ b = omega arith in
    let granule : w % 2 ^ 16 ≡ g = omega arith in
    let slot : v + 1 - 1 ≡ v = omega arith in
    rw (ne_eqb w 0 (λ e. omega arith), ne_eqb w 0xFF000000 (λ e. omega arith), owner, sharing, granule, le-leb 1 (v + 1) (omega arith), le-leb (v + 1) 8 (omega arith), le-leb b 1 few, slot, shared_again s)
frame_decode_encode Damaged h = refl

-- the test on an owner's byte and the sharing byte, as bounds
owner_fields : (a b : ℕ) → leb 1 a && (leb a 8 && leb b 1) ≡ true → (1 ≤ a) × (a ≤ 8) × (b ≤ 1)
owner_fields a b e =
    let p = both_true (leb 1 a) (leb a 8 && leb b 1) e in
    let q = both_true (leb a 8) (leb b 1) p.1 in
    (leb-true 1 a p.0, leb-true a 8 q.0, leb-true b 1 q.1)

owned_again : (a b g : ℕ) → (owned_by a b g ≡ Damaged → ⊥) → frame_bits (owned_by a b g) ≡ a * 2 ^ 24 + (b * 2 ^ 16 + g)
unfolding frame_bits
owned_again a b g n = go (leb 1 a && (leb a 8 && leb b 1)) refl n
  where
    go : (t : Bool) → leb 1 a && (leb a 8 && leb b 1) ≡ t → (cond t (Owned (a - 1) (eqb b 1) g) Damaged ≡ Damaged → ⊥)
        → frame_bits (cond t (Owned (a - 1) (eqb b 1) g) Damaged) ≡ a * 2 ^ 24 + (b * 2 ^ 16 + g)
    go true e n = let f = owner_fields a b e in rw (sharing_again b f.2) (omega arith)
    go false e n = absurd (n refl)

pub frame_encode_decode : (w : ℕ) → (frame_word_of w ≡ Damaged → ⊥) → frame_bits (frame_word_of w) ≡ w
unfolding frame_bits frame_word_of
frame_encode_decode w n = go (eqb w 0) refl (eqb w 0xFF000000) refl n
  where
    owned : FrameWord
    owned = owned_by (w / 2 ^ 24) (w / 2 ^ 16 % 2 ^ 8) (w % 2 ^ 16)

    go : (a : Bool) → eqb w 0 ≡ a → (b : Bool) → eqb w 0xFF000000 ≡ b → (cond a Host (cond b Waiting owned) ≡ Damaged → ⊥)
        → frame_bits (cond a Host (cond b Waiting owned)) ≡ w
    go true p b q n = sym (eqb-true w 0 p)
    go false p true q n = sym (eqb-true w 0xFF000000 q)
    go false p false q n = owned_again (w / 2 ^ 24) (w / 2 ^ 16 % 2 ^ 8) (w % 2 ^ 16) n ∙ omega arith

pub frame_below : (d : FrameWord) → FrameFits d → frame_bits d < 2 ^ 32
unfolding frame_bits
frame_below Host h = omega arith
frame_below Waiting h = omega arith
frame_below (Owned v s g) h = omega (arith, sharing_bit s)
frame_below Damaged h = omega arith

pub named_granule : (v : ℕ) (s : Bool) (g : ℕ) (d : FrameWord) → names_granule v s g d ≡ true → d ≡ Owned v s g
named_granule v s g Host h = cc
named_granule v s g Waiting h = cc
named_granule v s g (Owned u t k) h =
    let p = both_true (eqb v u) (beq s t && eqb g k) h in
    let q = both_true (beq s t) (eqb g k) p.1 in
    rw (eqb-true v u p.0, beq_true s t q.0, eqb-true g k q.1)
named_granule v s g Damaged h = cc

named_itself : (v : ℕ) (s : Bool) (g : ℕ) → names_granule v s g (Owned v s g) ≡ true
named_itself v s g = rw (eq-eqb v v refl, beq_self s, eq-eqb g g refl)

-- whether a word says an owner is one comparison, with the word built for that owner
pub names_granule_built : (v : ℕ) (s : Bool) (g : ℕ) → v < 8 → g < 2 ^ 16 → (w : ℕ) → names_granule v s g (frame_word_of w) ≡ eqb w (frame_bits (Owned v s g))
names_granule_built v s g hv hg =
    by_built frame_bits frame_word_of (names_granule v s g) (Owned v s g) (frame_decode_encode (Owned v s g) (hv, hg)) (named_itself v s g) (named_granule v s g)
    (λ w e. frame_encode_decode w (λ d. never cc))

owned_fits : (a b g : ℕ) → g < 2 ^ 16 → FrameFits (owned_by a b g)
owned_fits a b g h = go (leb 1 a && (leb a 8 && leb b 1)) refl
  where
    go : (t : Bool) → leb 1 a && (leb a 8 && leb b 1) ≡ t → FrameFits (cond t (Owned (a - 1) (eqb b 1) g) Damaged)
    go true e = let f = owner_fields a b e in (omega arith, h)
    go false e = tt

-- what a word says is what a word has room for
pub frame_fits : (w : ℕ) → FrameFits (frame_word_of w)
unfolding frame_word_of
frame_fits w = go (eqb w 0) (eqb w 0xFF000000)
  where
    go : (a b : Bool) → FrameFits (cond a Host (cond b Waiting (owned_by (w / 2 ^ 24) (w / 2 ^ 16 % 2 ^ 8) (w % 2 ^ 16))))
    go true b = tt
    go false true = tt
    go false false = owned_fits (w / 2 ^ 24) (w / 2 ^ 16 % 2 ^ 8) (w % 2 ^ 16) (omega arith)

pub names_no_granule : (v : ℕ) (s : Bool) (g w : ℕ) → ((v < 8) × (g < 2 ^ 16) → ⊥) → names_granule v s g (frame_word_of w) ≡ false
names_no_granule v s g w n =
    false_unless (names_granule v s g (frame_word_of w)) (λ t. n (rw (named_granule v s g (frame_word_of w) t) at (frame_fits w)))

-- the code's cast of the flag
pub sharing_cast : (s : Bool) → bool_byte s ≡ sharing_byte s
sharing_cast true = refl
sharing_cast false = refl

-- a word that is neither the host's nor waiting, by its fields as the code takes them
module _ (w : ℕ) (n₀ : w ≡ 0 → ⊥) (n₁ : w ≡ 0xFF000000 → ⊥) where
  sharing_field : bit_and (w / 2 ^ 16) 0xFF ≡ w / 2 ^ 16 % 2 ^ 8
  sharing_field = and_mask (w / 2 ^ 16) 8

  pub owner_damaged : ((1 ≤ w / 2 ^ 24) × (w / 2 ^ 24 ≤ 8) × (bit_and (w / 2 ^ 16) 0xFF ≤ 1) → ⊥) → Damaged ≡ frame_word_of w
  unfolding frame_word_of
  owner_damaged n =
      let a = w / 2 ^ 24 in
      let b = w / 2 ^ 16 % 2 ^ 8 in
      let fields : (1 ≤ a) × (a ≤ 8) × (b ≤ 1) → ⊥ = rw sharing_field at n in
      rw (ne_eqb w 0 n₀, ne_eqb w 0xFF000000 n₁, false_unless (leb 1 a && (leb a 8 && leb b 1)) (λ t. fields (owner_fields a b t)))

  pub owner_named : (1 ≤ w / 2 ^ 24) × (w / 2 ^ 24 ≤ 8) × (bit_and (w / 2 ^ 16) 0xFF ≤ 1)
      → Owned (w / 2 ^ 24 - 1) (eqb (bit_and (w / 2 ^ 16) 0xFF) 1) (w % 2 ^ 16) ≡ frame_word_of w
  unfolding frame_word_of
  owner_named h =
      let b = w / 2 ^ 16 % 2 ^ 8 in
      let few : b ≤ 1 = rw sharing_field at h.2 in
      rw (sharing_field, ne_eqb w 0 n₀, ne_eqb w 0xFF000000 n₁, le-leb 1 (w / 2 ^ 24) h.0, le-leb (w / 2 ^ 24) 8 h.1, le-leb b 1 few)

-- the sharing byte's lowest bit changed
sharing_flipped : (v g : ℕ) (s t : Bool) → g < 2 ^ 16 → bit_xor (sharing_byte s) 1 ≡ sharing_byte t → bit_xor (frame_bits (Owned v s g)) 0x10000 ≡ frame_bits (Owned v t g)
unfolding frame_bits
sharing_flipped v g s t h e =
    let few : sharing_byte s ≤ 1 = sharing_bit s in
    let upper = (v + 1) * 2 ^ 8 + sharing_byte s in
    let word : frame_bits (Owned v s g) ≡ upper * 2 ^ 16 + g = omega arith in
    let above : bit_xor upper 1 ≡ (v + 1) * 2 ^ 8 + sharing_byte t = xor_block 8 (v + 1) 0 (sharing_byte s) 1 (omega arith) (omega arith) ∙ rw (xor_zero_r, e) in
    rw (word, flipped 16 upper g 1 h, above) (omega arith)

pub frame_reshared : (from to : Bool) (w v g : ℕ) → frame_word_of w ≡ Owned v from g → (same : Bool) → beq from to ≡ same
    → cond same w (bit_xor w 0x10000) ≡ frame_bits (Owned v to g)
frame_reshared from to w v g e =
    let fit : (v < 8) × (g < 2 ^ 16) = rw e at (frame_fits w) in
    let built : w ≡ frame_bits (Owned v from g) = sym (frame_encode_decode w (λ d. never cc)) ∙ ap frame_bits e in
    by_mask (λ s. frame_bits (Owned v s g)) 0x10000 (sharing_flipped v g true false fit.1 refl) (sharing_flipped v g false true fit.1 refl) from to w built
