-- A part of a list moved to the front of it, element by element.
-- What is still to be moved lies at or behind the place where it goes, so no store has changed it.
use Rattle.std.proofs.Common.{◌≡◌, ℕ, suc, ◌+◌, ◌-◌, ◌<◌, ◌≤◌, min, List, [], length, get_or, take, drop, set, refl, ◌∙◌, add_comm, add-one, arith, length-drop, length-set, drop_of_length-le, length-take, get_or-drop, take_all, get_or-take, take-suc, drop-drop, take-suc-set, drop-set-lt}

-- the elements from one place up to another
abbrev pub part : ℕ → ℕ → List ℕ → List ℕ
part from to l = drop from (take to l)

-- as many as there are up to the second place, less those before the first
pub part_length : (from to : ℕ) (l : List ℕ) → length (part from to l) ≡ min to (length l) - from
part_length from to l = simp (length-drop, length-take)

-- none, where there are none up to the second place but those before the first
pub part_none : (from to : ℕ) (l : List ℕ) → min to (length l) ≤ from → part from to l ≡ []
part_none from to l h = drop_of_length-le (take to l) {i = from} (rw length-take h)

-- the first i elements of a part of `before` are moved, and `after` is as `before` from there on
pub record Moved (from to : ℕ) (before : List ℕ) (i : ℕ) (after : List ℕ) : Type 0 where
  pub within : i ≤ length (part from to before)
  pub same : length after ≡ length before
  pub front : take i after ≡ take i (part from to before)
  pub rest : drop i after ≡ drop i before

-- none is moved
pub moved_none : (from to : ℕ) (l : List ℕ) → Moved from to l 0 l
moved_none from to l = record { within = omega arith; same = refl; front = refl; rest = refl }

-- one more is moved
pub moved_more : {from to i : ℕ} {before after : List ℕ} → Moved from to before i after → i < length (part from to before)
    → Moved from to before (i + 1) (set after i (get_or after (from + i) 0))
moved_more {from} {to} {i} {before} {after} m h =
    let there : from + i < to = omega (arith, part_length from to before) in
    let room : i < length after = omega (arith, part_length from to before) in
    let v : ℕ = get_or after (from + i) 0 in
    let unmoved : v ≡ get_or before (from + i) 0 = rw (add_comm from i, ← get_or-drop i after from 0, m.rest, get_or-drop) in
    let next : get_or (part from to before) i 0 ≡ get_or before (from + i) 0 = rw (get_or-drop, get_or-take) in
    record {
      within = omega arith;
      same = simp length-set m.same;
      front = rw (add-one, take-suc-set after i v room, take-suc (part from to before) i 0 h, m.front, next, unmoved);
      rest = rw (add-one, drop-set-lt (suc i) after i v (omega arith), ← add-one, ← drop-drop 1 i after, m.rest, drop-drop);
    }

-- all are moved
pub moved_all : {from to i n : ℕ} {before after : List ℕ} → Moved from to before i after → n ≡ length (part from to before) → n ≤ i
    → take n after ≡ part from to before
moved_all {from} {to} {i} {n} {before} m e h =
    let all : n ≡ i = omega arith in
    rw all (m.front ∙ take_all i (part from to before) (omega arith))
