-- A row lies within the table: seven rows before it and itself are at most eight.
use mathlib.Core.Path.{◌≡◌, refl, ap, ◌∙◌}
use mathlib.Core.List.{List}
use Prim.Native.Nat.{ℕ, ◌+◌, ◌*◌, ◌-◌, ◌/◌, ◌<◌, ◌≤◌}
use native.Mathlib.Nat.{mul-le-mul_right}
use native.Mathlib.Decide.{dec_lt}
use native.Mathlib.Omega.{arith}
use borrow.Author.Tests.{lt-ltb, le-ltb}
use lib.ListN.{length, get_or, drop, length-take, length-drop}
use lib.Seq.{get_or-take, get_or-drop}
use Rattle.tables.specs.Length.{width_of}
use Rattle.tables.specs.Row.{bounds, bounds_of, row_of, word_index, word_at}
use Rattle.std.specs.declared.ops.Range.{Range}

pub row_inside : (n v : ℕ) → v < 8 → v * width_of n + width_of n ≤ n
row_inside n v h = omega (arith, mul-le-mul_right {m = v} {n = 7} (n / 8) (omega arith))

pub bounds_slot : (n v : ℕ) → v < 8 → bounds_of n v ≡ bounds (v * width_of n) (v * width_of n + width_of n)
unfolding bounds_of
bounds_slot n v h = rw (lt-ltb v 8 h)

pub bounds_none : (n v : ℕ) → 8 ≤ v → bounds_of n v ≡ bounds 0 0
unfolding bounds_of
bounds_none n v h = rw (le-ltb v 8 h)

-- for any slot, the bounds are in order and within the table
pub bounds_ordered : (n v : ℕ) → ((bounds_of n v).start ≤ (bounds_of n v).end) × ((bounds_of n v).end ≤ n)
bounds_ordered n v = go (dec_lt v 8)
  where
    go : Dec (v < 8) → ((bounds_of n v).start ≤ (bounds_of n v).end) × ((bounds_of n v).end ≤ n)
    go (yes h) = rw (bounds_slot n v h) (omega arith, row_inside n v h)
    go (no h) = rw (bounds_none n v (omega arith)) (omega arith, omega arith)

module _ (map : List ℕ) (v : ℕ) where
  pub row_length : v < 8 → length (row_of map v) ≡ width_of (length map)
  row_length h = rw (bounds_slot (length map) v h) (simp (length-take, length-drop) (omega (arith, row_inside (length map) v h)))

  pub row_length_none : 8 ≤ v → length (row_of map v) ≡ 0
  row_length_none h = rw (bounds_none (length map) v h)

  pub row_word : (g : ℕ) → v < 8 → g < width_of (length map) → get_or (row_of map v) g 0 ≡ word_at map v g
  row_word g h hg =
      let w = width_of (length map) in
      let k : g < v * w + w - v * w = omega arith in
      rw (bounds_slot (length map) v h) (get_or-take (v * w + w - v * w) (drop (v * w) map) g 0 k ∙ get_or-drop (v * w) map g 0)

-- what the code finds of a row, where it has computed its bounds
pub in_order : (map : List ℕ) (v : ℕ) (r : Range ℕ) → r ≡ bounds_of (length map) v → (r.start ≤ r.end) × (r.end ≤ length map)
in_order map v r e = rw e (bounds_ordered (length map) v)

-- the index of a granule's word, from where its row starts
pub index_inside : (map : List ℕ) (v g : ℕ) (r : Range ℕ) → r ≡ bounds_of (length map) v → v < 8 → g < width_of (length map)
    → (r.start + g ≡ word_index (length map) v g) × (r.start + g < length map)
index_inside map v g r e hv hg =
    let start : r ≡ bounds (v * width_of (length map)) (v * width_of (length map) + width_of (length map)) = e ∙ bounds_slot (length map) v hv in
    rw start (refl, omega (arith, row_inside (length map) v hv))

-- an index into a row is a granule of a slot, and the word there is that granule's
pub record RowWord (map : List ℕ) (v g w : ℕ) : Type 0 where
  pub slot : v < 8
  pub granule : g < width_of (length map)
  pub word : w ≡ word_at map v g

module _ (map : List ℕ) (v g : ℕ) (words : List ℕ) (e : words ≡ row_of map v) where
  pub in_row : g < length words → RowWord map v g (get_or words g 0)
  in_row h = go (dec_lt v 8) (rw e at h)
    where
      go : Dec (v < 8) → g < length (row_of map v) → RowWord map v g (get_or words g 0)
      go (yes hv) l =
          let hg : g < width_of (length map) = rw (row_length map v hv) at l in
          record { slot = hv; granule = hg; word = rw e (row_word map v g hv hg) }
      go (no n) l = absurd (omega (arith, row_length_none map v (omega arith)))

  -- past the end of a row there is no slot, or no granule
  pub off_row : length words ≤ g → v < 8 → width_of (length map) ≤ g
  off_row h hv = omega (arith, row_length map v hv, ap length e)
