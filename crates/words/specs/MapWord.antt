-- Document 01, "Tables", "Map word".
use Rattle.std.specs.Prelude.{Bool, true, false, cond, not, ◌&&◌, ℕ, ◌+◌, ◌/◌, ◌%◌, ◌^◌, eqb}
use Rattle.std.specs.Bool.{beq}
use Rattle.words.specs.declared.map_word.MapWord.{MapWord}
use Rattle.words.specs.declared.map_word.MapWord.TheVariants.{Vacant, Frame, Guarded, Damaged}

-- "0 vacant; 0x40000000 + f private frame f; 0x80000000 + f shared frame f; 0xC0000000 guarded MMIO."
-- The damaged case has no word of its own: 1 is one of its words.
unfoldable pub map_bits : MapWord → ℕ
map_bits Vacant = 0
map_bits (Frame false f) = 0x40000000 + f
map_bits (Frame true f) = 0x80000000 + f
map_bits Guarded = 0xC0000000
map_bits Damaged = 1

-- "The top two bits give the kind; f is the low 16 bits." With no bit set between, the upper half of a frame's word is its kind alone.
-- "Any other word is damaged."
unfoldable pub map_word_of : ℕ → MapWord
map_word_of w =
    cond (eqb w 0) Vacant
    (cond (eqb (w / 2 ^ 16) 0x4000) (Frame false (w % 2 ^ 16))
    (cond (eqb (w / 2 ^ 16) 0x8000) (Frame true (w % 2 ^ 16))
    (cond (eqb w 0xC0000000) Guarded Damaged)))

-- whether a map word says this frame, shared or private as told
abbrev pub names_frame : Bool → ℕ → MapWord → Bool
names_frame s f Vacant = false
names_frame s f (Frame t h) = beq s t && eqb f h
names_frame s f Guarded = false
names_frame s f Damaged = false

-- what the map word of a granule without a frame says, guarded or vacant as told
abbrev pub bare_word : Bool → MapWord
bare_word false = Vacant
bare_word true = Guarded

-- whether a map word says such a granule
abbrev pub is_bare : Bool → MapWord → Bool
is_bare b Vacant = not b
is_bare b (Frame s f) = false
is_bare b Guarded = b
is_bare b Damaged = false
