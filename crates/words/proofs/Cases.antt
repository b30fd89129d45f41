-- Words and numbers of document 01 as computed cases, the damaged ones by each way that a word can be damaged.
use mathlib.Core.Path.{◌≡◌, refl}
use mathlib.Core.Bool.{true, false}
use mathlib.Core.List.{[], ◌∷◌, map}
use lib.IntN.{pos, negsuc}
use Rattle.words.specs.MapWord.{map_word_of}
use Rattle.words.specs.FrameWord.{frame_word_of}
use Rattle.words.specs.Register.{register_of}
use Rattle.words.specs.declared.map_word.MapWord.TheVariants as map-word
use Rattle.words.specs.declared.frame_word.FrameWord.TheVariants as frame-word

pub map_words : map map_word_of (0 ∷ 0x40000000 ∷ 0x4000FFFF ∷ 0x80000003 ∷ 0xC0000000 ∷ [])
    ≡ map-word.Vacant ∷ map-word.Frame false 0 ∷ map-word.Frame false 0xFFFF ∷ map-word.Frame true 3 ∷ map-word.Guarded ∷ []
unfolding map_word_of
map_words = refl

-- kind 0 with other bits, bits 16 to 29 of a frame's word, and a guarded word with other bits
pub map_words_damaged : map map_word_of (5 ∷ 0x20000000 ∷ 0x40010003 ∷ 0x60000000 ∷ 0x80010000 ∷ 0xA0000005 ∷ 0xC0000001 ∷ 0xE0000000 ∷ [])
    ≡ map-word.Damaged ∷ map-word.Damaged ∷ map-word.Damaged ∷ map-word.Damaged ∷ map-word.Damaged ∷ map-word.Damaged ∷ map-word.Damaged ∷ map-word.Damaged ∷ []
unfolding map_word_of
map_words_damaged = refl

pub frame_words : map frame_word_of (0 ∷ 0xFF000000 ∷ 0x01000005 ∷ 0x0801FFFF ∷ [])
    ≡ frame-word.Host ∷ frame-word.Waiting ∷ frame-word.Owned 0 false 5 ∷ frame-word.Owned 7 true 0xFFFF ∷ []
unfolding frame_word_of
frame_words = refl

-- owner 0 with other bits, owners 9 and 254, sharing above 1, and a waiting word with other bits
pub frame_words_damaged : map frame_word_of (5 ∷ 0x00010000 ∷ 0x09000000 ∷ 0xFE000000 ∷ 0x01020000 ∷ 0x08FF0000 ∷ 0xFF000001 ∷ 0xFF010000 ∷ [])
    ≡ frame-word.Damaged ∷ frame-word.Damaged ∷ frame-word.Damaged ∷ frame-word.Damaged ∷ frame-word.Damaged ∷ frame-word.Damaged ∷ frame-word.Damaged ∷ frame-word.Damaged ∷ []
unfolding frame_word_of
frame_words_damaged = refl

-- 0, −1, −3, then the register numbers −2, −16, −22
pub registers : map register_of (pos 0 ∷ negsuc 0 ∷ negsuc 2 ∷ negsuc 1 ∷ negsuc 15 ∷ negsuc 21 ∷ [])
    ≡ 0 ∷ 0xFFFFFFFFFFFFFFFF ∷ 0xFFFFFFFFFFFFFFFD ∷ 18446744073709551614 ∷ 18446744073709551600 ∷ 18446744073709551594 ∷ []
registers = refl
