-- A test that only x passes, of a word taken apart, is a comparison with the word built for x; and a word built for private or shared is
-- one `^` away from the other.
use mathlib.Core.Path.{◌≡◌, refl, sym, ap, ◌∙◌}
use mathlib.Core.Bool.{Bool, true, false, cond, beq}
use Prim.Native.Nat.{ℕ}
use lib.Bits.{bit_xor}
use lib.Dec.{eqb}
use borrow.Author.Tests.{eqb-true, eqb-false}

module _ {D : Type 0} (encode : D → ℕ) (decode : ℕ → D) (test : D → Bool) (x : D) (there : decode (encode x) ≡ x) (passes : test x ≡ true)
    (only : (d : D) → test d ≡ true → d ≡ x) (back : (w : ℕ) → decode w ≡ x → encode (decode w) ≡ w) where
  pub by_built : (w : ℕ) → test (decode w) ≡ eqb w (encode x)
  by_built w = go (test (decode w)) refl (eqb w (encode x)) refl
    where
      go : (a : Bool) → test (decode w) ≡ a → (b : Bool) → eqb w (encode x) ≡ b → a ≡ b
      go true p true q = refl
      go true p false q =
          let e : decode w ≡ x = only (decode w) p in
          absurd (eqb-false w (encode x) q (sym (back w e) ∙ ap encode e))
      go false p true q =
          let e : decode w ≡ x = ap decode (eqb-true w (encode x) q) ∙ there in
          sym p ∙ ap test e ∙ passes
      go false p false q = refl

module _ (bits : Bool → ℕ) (mask : ℕ) (down : bit_xor (bits true) mask ≡ bits false) (up : bit_xor (bits false) mask ≡ bits true) where
  pub by_mask : (from to : Bool) (w : ℕ) → w ≡ bits from → (same : Bool) → beq from to ≡ same → cond same w (bit_xor w mask) ≡ bits to
  by_mask true true w e same q = rw (← q) e
  by_mask true false w e same q = rw (← q, e) down
  by_mask false true w e same q = rw (← q, e) up
  by_mask false false w e same q = rw (← q) e
