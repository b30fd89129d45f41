-- Document 01, "Tables": "slot v's row starts at word v × W and covers granules 0 to W − 1 of its guest address space".
use Rattle.std.specs.Prelude.{cond, List, ◌++◌, ℕ, ◌+◌, ◌*◌, ◌-◌, ltb, length, get_or, take, drop}
use Rattle.tables.specs.Length.{width_of}
use Rattle.std.specs.declared.ops.Range.{Range}

abbrev pub bounds : ℕ → ℕ → Range ℕ
bounds a e = record { start = a; end = e }

-- slot v's row in a map table of n words; "there are 8 guest slots, 0 to 7", and another has none
unfoldable pub bounds_of : ℕ → ℕ → Range ℕ
bounds_of n v = cond (ltb v 8) (bounds (v * width_of n) (v * width_of n + width_of n)) (bounds 0 0)

-- the row as a part of the map table
abbrev pub row_of : List ℕ → ℕ → List ℕ
row_of map v = let r = bounds_of (length map) v in take (r.end - r.start) (drop r.start map)

-- the map table with other words as that row
abbrev pub with_row : List ℕ → ℕ → List ℕ → List ℕ
with_row map v words = let r = bounds_of (length map) v in take r.start map ++ (words ++ drop r.end map)

-- the number of the word of granule g of slot v, in a map table of n words
abbrev pub word_index : ℕ → ℕ → ℕ → ℕ
word_index n v g = v * width_of n + g

-- the word of granule g of slot v
abbrev pub word_at : List ℕ → ℕ → ℕ → ℕ
word_at map v g = get_or map (word_index (length map) v g) 0

-- where word i of a table stands in memory, of which the first word stands at p: a block, and a byte in it
abbrev pub place_at : ℕ × ℕ → ℕ → ℕ × ℕ
place_at p i = (p.0, i * 4 + p.1)
