-- Document 01, "Tables": the two tables' lengths, in words.
use Rattle.std.specs.Prelude.{Bool, ◌&&◌, ℕ, ◌/◌, ◌%◌, eqb, leb}

-- "The frame table has F words, 1 to 16,384."
unfoldable pub frames_hold : ℕ → Bool
frames_hold n = leb 1 n && leb n 16384

-- W of a map table of n words, which has 8 × W
abbrev pub width_of : ℕ → ℕ
width_of n = n / 8

-- "The map table has 8 × W words, W from 1 to 4,096."
unfoldable pub map_holds : ℕ → Bool
map_holds n = eqb (n % 8) 0 && (leb 1 (width_of n) && leb (width_of n) 4096)

-- verdict 1 is for a call that has both tables and finds this false
abbrev pub lengths_hold : ℕ → ℕ → Bool
lengths_hold f m = frames_hold f && map_holds m
