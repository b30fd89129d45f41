-- Document 01, "Tables", "Frame word".
use Rattle.std.specs.Prelude.{Bool, true, false, cond, ◌&&◌, ℕ, ◌+◌, ◌*◌, ◌-◌, ◌/◌, ◌%◌, ◌^◌, eqb, leb}
use Rattle.std.specs.Bool.{beq}
use Rattle.words.specs.declared.frame_word.FrameWord.{FrameWord}
use Rattle.words.specs.declared.frame_word.FrameWord.TheVariants.{Host, Waiting, Owned, Damaged}

-- "0 private or 1 shared"
abbrev pub sharing_byte : Bool → ℕ
sharing_byte false = 0
sharing_byte true = 1

-- "0 host's; 0xFF000000 waiting to be cleared; otherwise owner (slot + 1) in the top byte, 0 private or 1 shared in the next,
-- granule in the low 16 bits." The damaged case has no word of its own: 1 is one of its words.
unfoldable pub frame_bits : FrameWord → ℕ
frame_bits Host = 0
frame_bits Waiting = 0xFF000000
frame_bits (Owned v s g) = (v + 1) * 2 ^ 24 + (sharing_byte s * 2 ^ 16 + g)
frame_bits Damaged = 1

-- an owner's byte, the sharing byte and the granule; "any other word is damaged"
abbrev pub owned_by : ℕ → ℕ → ℕ → FrameWord
owned_by owner sharing g =
    cond (leb 1 owner && (leb owner 8 && leb sharing 1)) (Owned (owner - 1) (eqb sharing 1) g) Damaged

unfoldable pub frame_word_of : ℕ → FrameWord
frame_word_of w =
    cond (eqb w 0) Host
    (cond (eqb w 0xFF000000) Waiting
    (owned_by (w / 2 ^ 24) (w / 2 ^ 16 % 2 ^ 8) (w % 2 ^ 16)))

-- whether a frame word says that granule g of slot v owns the frame, shared or private as told
abbrev pub names_granule : ℕ → Bool → ℕ → FrameWord → Bool
names_granule v s g Host = false
names_granule v s g Waiting = false
names_granule v s g (Owned u t h) = eqb v u && (beq s t && eqb g h)
names_granule v s g Damaged = false
