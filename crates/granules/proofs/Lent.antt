-- The steps over a row that is lent as a part of the map table, seen in the whole table.
use mathlib.Core.Path.{◌≡◌, refl, sym, ap, ◌∙◌}
use mathlib.Core.Bool.{Bool, true, false, cond}
use mathlib.Core.List.{List, [], ◌∷◌, ◌++◌}
use Prim.Native.Nat.{ℕ, ◌+◌, ◌*◌, ◌-◌, ◌<◌}
use native.Mathlib.Nat.{zero-add, suc-add}
use native.Mathlib.Omega.{arith}
use borrow.Author.Tests.{ltb-true}
use borrow.Rule.Slice.PartMut.{mid_of, post_of, put_mid, put_same}
use lib.Dec.{ltb}
use lib.ListN.{length, get_or, set, take, length-append, length-set, length-take, length-drop, get_or-append}
use lib.Seq.{get_or-append-add, set-append_left}
use Rattle.runs.specs.Run.{Step, took, refuses, Stop, ended, run}
use Rattle.runs.proofs.Alike.{map_stop, map_step, map_end, alike}
use Rattle.words.specs.MapWord.{map_bits, map_word_of}
use Rattle.tables.specs.Length.{width_of}
use Rattle.tables.specs.Row.{bounds, bounds_of}
use Rattle.pairs.specs.Pair.{granule_state}
use Rattle.std.specs.declared.ops.Range.{Range}
use Rattle.words.proofs.Booleans.{never}
use Rattle.tables.proofs.RowLaws.{row_inside, bounds_slot}
use Rattle.granules.specs.Kind.{word_with, GranuleChange, leave_damaged, leave_other, write_bare, write_framed, change_of}
use Rattle.granules.specs.Step.{Place, place, Refusal, not_done, written, step_from, row_step, table_step}
use Rattle.granules.specs.declared.kinds.Kind.{Kind}
use Rattle.granules.specs.declared.kinds.Operation.{Operation}

set_append_add : (xs ys : List ℕ) (n a : ℕ) → set (xs ++ ys) (length xs + n) a ≡ xs ++ set ys n a
set_append_add [] ys n a = rw zero-add
set_append_add (x ∷ xs) ys n a = rw suc-add (ap {B = List ℕ} (λ l. x ∷ l) (set_append_add xs ys n a))

-- the words of the row, of a place in it
abbrev pub row_at : Place → List ℕ
row_at (place row frames g) = row

words_after_lem : Step Place Refusal → ℕ
words_after_lem (took t) = length (row_at t)
words_after_lem (refuses r) = 0

-- a step that is taken keeps the number of words
written_length : (m : Kind) (v i : ℕ) (map frames : List ℕ) (g : ℕ) (d : GranuleChange) (t : Place) → written m v i map frames g d ≡ took t → length (row_at t) ≡ length map
unfolding words_after_lem
written_length m v i map frames g leave_damaged t e = never cc
written_length m v i map frames g leave_other t e = never cc
written_length m v i map frames g (write_bare w) t e = sym (ap words_after_lem e) ∙ length-set map i w
written_length m v i map frames g (write_framed f) t e = sym (ap words_after_lem e) ∙ length-set map i (map_bits (word_with m f))

-- a step that is taken is below the width
pub taken : (c : Bool) (o : Step Place Refusal) (t : Place) → cond c o (refuses not_done) ≡ took t → (c ≡ true) × (o ≡ took t)
taken true o t e = (refl, e)
taken false o t e = (cc, cc)

pub step_length : (o : Operation) (v a w : ℕ) (s t : Place) → step_from o v a w s ≡ took t → length (row_at t) ≡ length (row_at s)
unfolding step_from
step_length o v a w (place map frames g) t e =
    let d = change_of o (granule_state frames v g (map_word_of (get_or map (a + g) 0))) in
    written_length o.makes v (a + g) map frames g d t (taken (ltb g w) (written o.makes v (a + g) map frames g d) t e).1

module _ (o : Operation) (v w : ℕ) (pre post : List ℕ) (at : length pre ≡ v * w) (wide : width_of (length pre + (w + length post)) ≡ w) where
  -- a place in the row, as a place in the table
  abbrev embed : Place → Place
  embed (place row frames g) = place (pre ++ (row ++ post)) frames g

  Whole : Place → Type 0
  Whole s = length (row_at s) ≡ w

  module _ (row frames : List ℕ) (g : ℕ) (i : length row ≡ w) (h : g < w) where
    word : get_or (pre ++ (row ++ post)) (v * w + g) 0 ≡ get_or row g 0
    word = rw (← at) (get_or-append-add pre (row ++ post) g 0 ∙ get_or-append row post 0 g (omega arith))

    put : (y : ℕ) → set (pre ++ (row ++ post)) (v * w + g) y ≡ pre ++ (set row g y ++ post)
    put y = rw (← at) (set_append_add pre (row ++ post) g y ∙ ap {B = List ℕ} (λ l. pre ++ l) (set-append_left row post g y (omega arith)))

    -- a change written in the table is the one written in the row
    written_like : (d : GranuleChange) → written o.makes v (v * w + g) (pre ++ (row ++ post)) frames g d ≡ map_step embed (λ r. r) (written o.makes v g row frames g d)
    written_like leave_damaged = refl
    written_like leave_other = refl
    written_like (write_bare y) = rw (put y)
    written_like (write_framed f) = rw (put (map_bits (word_with o.makes f)))

  like_on : (row frames : List ℕ) (g : ℕ) → length row ≡ w → (c : Bool) → ltb g w ≡ c
      → cond c (written o.makes v (v * w + g) (pre ++ (row ++ post)) frames g (change_of o (granule_state frames v g (map_word_of (get_or (pre ++ (row ++ post)) (v * w + g) 0))))) (refuses not_done)
      ≡ map_step embed (λ r. r) (cond c (written o.makes v (0 + g) row frames g (change_of o (granule_state frames v g (map_word_of (get_or row (0 + g) 0))))) (refuses not_done))
  like_on row frames g i true e =
      let h : g < w = ltb-true g w e in
      rw (zero-add, word row frames g i h) (written_like row frames g i h (change_of o (granule_state frames v g (map_word_of (get_or row g 0)))))
  like_on row frames g i false e = refl

  like : (s : Place) → Whole s → table_step o v (embed s) ≡ map_step embed (λ r. r) (row_step o v w s)
  unfolding step_from Whole
  like (place row frames g) i =
      let wide' : width_of (length (pre ++ (row ++ post))) ≡ w = simp (length-append, i) wide in
      rw wide' (like_on row frames g i (ltb g w) refl)

  lent_run : (n : ℕ) (s : Place) → Whole s → run (table_step o v) n (embed s) ≡ map_end embed (λ r. r) (run (row_step o v w) n s)
  unfolding Whole
  lent_run n s i = alike embed (λ r. r) Whole (row_step o v w) (table_step o v) (λ s t j e. step_length o v 0 w s t e ∙ j) like n s i

same_stop : (r : Stop Refusal) → map_stop (λ q. q) r ≡ r
same_stop Stop.complete = refl
same_stop (Stop.refused r) = refl
same_stop Stop.out_of_fuel = refl

-- a range over the row of slot v, lent as the part from a to e, is one over the table, with that part put back
pub lent : (o : Operation) (v n : ℕ) (map frames : List ℕ) (g : ℕ) (r : Range ℕ) → v < 8 → r ≡ bounds_of (length map) v
    → (row frames' : List ℕ) (d h : ℕ) (q : Stop Refusal)
    → run (row_step o v (length (mid_of r.start (r.end - r.start) map))) n (place (mid_of r.start (r.end - r.start) map) frames g) ≡ ended d (place row frames' h) q
    → run (table_step o v) n (place map frames g) ≡ ended d (place (put_mid r.start (r.end - r.start) map row) frames' h) q
unfolding Whole
lent o v n map frames g r hv er row frames' d h q e =
    let w = width_of (length map) in
    let eq : r ≡ bounds (v * w) (v * w + w) = er ∙ bounds_slot (length map) v hv in
    let a = v * w in
    let k = v * w + w - v * w in
    let pre = take a map in
    let mid = mid_of a k map in
    let post = post_of a k map in
    let inside = row_inside (length map) v hv in
    let lpre : length pre ≡ a = length-take a map ∙ omega (arith, inside) in
    let lmid : length mid ≡ w = simp (length-take, length-drop) (omega (arith, inside)) in
    let lpost : length post ≡ length map - a - k = simp length-drop in
    let all : length pre + (w + length post) ≡ length map = omega (arith, inside) in
    let e' : run (row_step o v w) n (place mid frames g) ≡ ended d (place row frames' h) q = rw (eq, lmid) at e in
    rw eq
    (ap (λ (l : List ℕ). run (table_step o v) n (place l frames g)) (sym (put_same a k map))
    ∙ lent_run o v w pre post lpre (ap width_of all) n (place mid frames g) lmid
    ∙ ap (map_end (embed o v w pre post lpre (ap width_of all)) (λ r. r)) e'
    ∙ ap (ended d (place (put_mid a k map row) frames' h)) (same_stop q))
