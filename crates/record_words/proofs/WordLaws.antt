-- A record put in changes its own words and no others; one that is there already changes none.
use mathlib.Core.Path.{◌≡◌, refl, subst, ◌∙◌}
use mathlib.Core.Bool.{true, false}
use mathlib.Core.List.{List, ◌++◌, map, append_assoc}
use Prim.Native.Nat.{ℕ, zero, suc, ◌+◌, ◌*◌, ◌≤◌, ◌<◌}
use native.Mathlib.Nat.{zero-add}
use native.Mathlib.Omega.{arith}
use borrow.Author.Tests.{lt-ltb, le-ltb}
use lib.ListN.{get_or, take, drop, set, take-append-drop}
use lib.Seq.{drop-drop, take-add}
use borrow.Rule.Slice.PartMut.{put_mid}
use denote.Param.Members.{Called, Mut}
use Rattle.std.specs.Array.{IsFromFnResult, IsFromFnResultFrom}
use Rattle.std.specs.List.{range_with_len}
use Rattle.std.proofs.lemmas.Cmp.{nat_list_eq_equiv}
use Rattle.std.proofs.lemmas.List.FromFn.{fill_by_all}
use Rattle.records.specs.Monitor.{guest_length, words_of, zero_guest, guest_of, with_guest}
use Rattle.records.specs.Change.{changed, alters, with_change}
use Rattle.records.specs.declared.guest.Guest.{Guest}
use Rattle.records.specs.declared.change.Change.{Change}
use Rattle.records.proofs.ChangeLaws.{change_is_put, beyond}
use Rattle.record_words.specs.Words.{words_from, guest_at, guests_from, monitor_in, same_words, record_after, records_after, words_after}

from_there : (w : List ℕ) (u n k : ℕ) → k < n → get_or (guests_from w u n) k zero_guest ≡ guest_at w (u + k)
from_there w u zero k h = absurd (omega arith)
from_there w u (suc n) zero h = let here : u + 0 ≡ u = omega arith in rw here
from_there w u (suc n) (suc k) h = let there : suc u + k ≡ u + suc k = omega arith in rw (← there) (from_there w (suc u) n k (omega arith))

pub guest_there : (w : List ℕ) (v : ℕ) → v < 8 → guest_of (monitor_in w) v ≡ guest_at w v
unfolding guest_of
guest_there w v h = rw (lt-ltb v 8 h, from_there w 0 8 v h, zero-add)

pub guest_nowhere : (w : List ℕ) (v : ℕ) → 8 ≤ v → guest_of (monitor_in w) v ≡ zero_guest
unfolding guest_of
guest_nowhere w v h = rw (le-ltb v 8 h)

-- the list that a closure fills, called at each index in turn, where each call gives h of the index and leaves the closure as it was
module _ {F X : Type 0} (g : Mut F (ℕ × Unit {0}) X) (f : F) (h : ℕ → X)
    (gives : (i : ℕ) (x : X) (q : F) → Called g f (i, tt) x q → (q ≡ f) × (x ≡ h i))
  where
    filled_at : (ys : List X) (i n k : ℕ) (d : X) → IsFromFnResultFrom g f ys i n → k < n → get_or ys (i + k) d ≡ h (i + k)
    filled_at ys i zero k d c l = absurd (omega arith)
    filled_at ys i (suc n) zero d c l =
        let here : i + 0 ≡ i = omega arith in
        rw here (c.2.1 d ∙ (gives i c.1 c.0 c.3).1)
    filled_at ys i (suc n) (suc k) d c l =
        let there : i + 1 + k ≡ i + suc k = omega arith in
        rw there at (filled_at ys (i + 1) n k d (subst (λ (q : F). IsFromFnResultFrom g q ys (i + 1) n) (gives i c.1 c.0 c.3).0 c.4) (omega arith))

    pub filled : (ys : List X) (n : ℕ) → X → IsFromFnResult g f ys n → ys ≡ map h (range_with_len 0 n)
    filled ys n d c = fill_by_all h ys n d c.long (λ k l. let none : 0 + k ≡ k = omega arith in rw none at (filled_at ys 0 n k d c.each l))

-- the words behind a record are those of the next
next_words : (w : List ℕ) (v : ℕ) → words_from w (suc v) ≡ drop guest_length (words_from w v)
next_words w v = let e : guest_length * suc v ≡ guest_length * v + guest_length = omega arith in rw (e, drop-drop)

as_found : (w : List ℕ) (v : ℕ) → record_after w v (guest_at w v) ≡ take guest_length (words_from w v)
as_found w v = rw (nat_list_eq_equiv.refl (words_of (guest_at w v)))

kept_from : (w : List ℕ) (v n : ℕ) → records_after w v (guests_from w v n) ≡ words_from w v
kept_from w v zero = refl
kept_from w v (suc n) = rw (as_found w v, kept_from w (suc v) n, next_words w v) (take-append-drop guest_length (words_from w v))

put_from : (w : List ℕ) (v n k : ℕ) (g : Guest) → k < n
    → records_after w v (set (guests_from w v n) k g) ≡ take (guest_length * k) (words_from w v) ++ record_after w (v + k) g ++ words_from w (suc (v + k))
put_from w v zero k g h = absurd (omega arith)
put_from w v (suc n) zero g h = let none : guest_length * 0 ≡ 0 = omega arith in let here : v + 0 ≡ v = omega arith in rw (kept_from w (suc v) n, none, here)
put_from w v (suc n) (suc k) g h =
    let more : guest_length * suc k ≡ guest_length + guest_length * k = omega arith in
    let there : suc v + k ≡ v + suc k = omega arith in
    rw (as_found w v, put_from w (suc v) n k g (omega arith), there, more, take-add guest_length (guest_length * k) (words_from w v), next_words w v)
    (simp append_assoc)

-- records that did not change
pub records_kept : (w : List ℕ) → words_after w (monitor_in w) ≡ w
unfolding words_after
records_kept w = kept_from w 0 8

-- only the words of the slot can change
pub put_at : (w : List ℕ) (k : ℕ) (g : Guest) → k < 8
    → words_after w (with_guest (monitor_in w) k g) ≡ take (guest_length * k) w ++ record_after w k g ++ drop (guest_length * k + guest_length) w
unfolding words_after with_guest
put_at w k g h =
    let next : guest_length * k + guest_length ≡ guest_length * suc k = omega arith in
    rw (lt-ltb k 8 h, next, put_from w 0 8 k g h, zero-add)

module _ (w : List ℕ) (k : ℕ) (d : Change) where
  -- by the words old of the record y that is there, and the words own of the record g that it leaves
  module _ (h : k < 8) (y : Guest) (there : y ≡ guest_of (monitor_in w) k) (g : Guest) (made : g ≡ changed d y)
      (old own : List ℕ) (p : old ≡ words_of y) (q : own ≡ words_of g)
    where
      compared : same_words old own ≡ same_words (words_of (guest_at w k)) (words_of g)
      compared = rw (p, q, there, guest_there w k h)

      put : words_after w (with_change (monitor_in w) k d) ≡ take (guest_length * k) w ++ record_after w k g ++ drop (guest_length * k + guest_length) w
      put = rw (change_is_put (monitor_in w) k d, ← there, ← made) (put_at w k g h)

      pub change_written : same_words old own ≡ false → (n : ℕ) → n ≡ guest_length
          → put_mid (guest_length * k) n w own ≡ words_after w (with_change (monitor_in w) k d)
      change_written e n whole = rw (put, ← compared, e, q, whole) (simp (drop-drop, append_assoc))

      pub change_same : same_words old own ≡ true → w ≡ words_after w (with_change (monitor_in w) k d)
      change_same e = rw (put, ← compared, e, ← take-add (guest_length * k) guest_length w, take-append-drop (guest_length * k + guest_length) w)

  pub change_none : false ≡ alters d → w ≡ words_after w (with_change (monitor_in w) k d)
  change_none a = rw (← a, records_kept w)

  pub change_nowhere : 8 ≤ k → w ≡ words_after w (with_change (monitor_in w) k d)
  change_nowhere h = rw (beyond (monitor_in w) k d h, records_kept w)
