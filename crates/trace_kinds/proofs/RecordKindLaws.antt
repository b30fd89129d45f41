-- Laws over the list of the kinds: none speaks of one kind alone, but for the longest.
use mathlib.Core.Path.{◌≡◌, refl}
use mathlib.Core.Bool.{Bool, true, false, ◌||◌}
use mathlib.Core.List.{List, [], ◌∷◌, map}
use Prim.Native.Nat.{ℕ, suc, zero, ◌+◌, ◌-◌, ◌≤◌, ◌<◌}
use native.Mathlib.Omega.{arith}
use borrow.Author.Tests.{ltb-true, eqb-true}
use lib.Dec.{eqb, ltb}
use lib.ListN.{length, get_or, drop}
use Rattle.trace_kinds.specs.RecordKind.{kinds, kind_of, length_of, some_length}
use Rattle.trace_kinds.specs.declared.kinds.RecordKind.{RecordKind}
use Rattle.trace_kinds.specs.declared.kinds.RecordKind.TheVariants.{Hypercall}
use Rattle.std.specs.Prelude.{Option, Some, None, slice_get}
use Rattle.std.specs.List.{list_any, list_all}
use Rattle.words.proofs.Booleans.{never, both_true}

-- a number and its place in the list
at_place : (ks : List RecordKind) (i : ℕ) → get_or (map Some ks) i None ≡ slice_get ks i
at_place [] i = refl
at_place (k ∷ ks) zero = refl
at_place (k ∷ ks) (suc i) = at_place ks i

pub kind_placed : (n i : ℕ) → n ≡ i + 1 → kind_of n ≡ slice_get kinds i
unfolding kind_of
kind_placed n i e = let next : n ≡ suc i = omega arith in rw next (at_place kinds i)

kind_at : (ks : List RecordKind) (n : ℕ) (d : RecordKind) → n < length ks → get_or (map Some ks) n None ≡ Some (get_or ks n d)
kind_at [] n d h = absurd (omega arith)
kind_at (k ∷ ks) zero d h = refl
kind_at (k ∷ ks) (suc n) d h = kind_at ks n d (omega arith)

pub numbered : (n : ℕ) (d : RecordKind) → 0 < n → n ≤ length kinds → kind_of n ≡ Some (get_or kinds (n - 1) d)
unfolding kind_of
numbered zero d l h = absurd (omega arith)
numbered (suc n) d l h = let before : suc n - 1 ≡ n = omega arith in rw before (kind_at kinds n d (omega arith))

-- looking at one kind more
pub some_step : (ks : List RecordKind) (i n : ℕ) (d : RecordKind) → i < length ks
    → list_any (λ k. eqb (length_of k) n) (drop i ks) ≡ eqb (length_of (get_or ks i d)) n || list_any (λ k. eqb (length_of k) n) (drop (suc i) ks)
some_step [] i n d h = absurd (omega arith)
some_step (k ∷ ks) zero n d h = refl
some_step (k ∷ ks) (suc i) n d h = some_step ks i n d (omega arith)

-- what is computed to hold of every kind of the list holds of the kind that a number stands for
found_in : (p : RecordKind → Bool) (ks : List RecordKind) (n : ℕ) (k : RecordKind) → list_all p ks ≡ true → get_or (map Some ks) n None ≡ Some k → p k ≡ true
found_in p [] n k h e = never cc
found_in p (x ∷ ks) zero k h e = let same : x ≡ k = cc in rw (← same) (both_true (p x) (list_all p ks) h).0
found_in p (x ∷ ks) (suc n) k h e = found_in p ks n k (both_true (p x) (list_all p ks) h).1 e

every : (p : RecordKind → Bool) (n : ℕ) (k : RecordKind) → list_all p kinds ≡ true → kind_of n ≡ Some k → p k ≡ true
unfolding kind_of
every p zero k h e = never cc
every p (suc n) k h e = found_in p kinds n k h e

-- no record is longer than a hypercall's
pub length_at_most : (n : ℕ) (k : RecordKind) → kind_of n ≡ Some k → length_of k ≤ length_of Hypercall
length_at_most n k e = omega (arith, ltb-true (length_of k) (length_of Hypercall + 1) (every (λ x. ltb (length_of x) (length_of Hypercall + 1)) n k refl e))

-- the length of a kind is one that some kind has
pub length_some : (n : ℕ) (k : RecordKind) → kind_of n ≡ Some k → some_length (length_of k) ≡ true
length_some n k e = every (λ x. some_length (length_of x)) n k refl e

-- and such a length is that of a kind with a number
pub data Has (found : ℕ → Option RecordKind) (b : ℕ) : Type 0 where
  has : (n : ℕ) (k : RecordKind) → found n ≡ Some k → length_of k ≡ b → Has found b

has_by : (k : RecordKind) (ks : List RecordKind) (b : ℕ) (here : Bool) → eqb (length_of k) b ≡ here
    → (list_any (λ x. eqb (length_of x) b) ks ≡ true → Has (λ n. get_or (map Some ks) n None) b)
    → here || list_any (λ x. eqb (length_of x) b) ks ≡ true → Has (λ n. get_or (map Some (k ∷ ks)) n None) b
has_by k ks b true e later h = has 0 k refl (eqb-true (length_of k) b e)
has_by k ks b false e later h = behind (later h)
  where
    behind : Has (λ n. get_or (map Some ks) n None) b → Has (λ n. get_or (map Some (k ∷ ks)) n None) b
    behind (has n x f g) = has (suc n) x f g

in_list : (ks : List RecordKind) (b : ℕ) → list_any (λ x. eqb (length_of x) b) ks ≡ true → Has (λ n. get_or (map Some ks) n None) b
in_list [] b h = never cc
in_list (k ∷ ks) b h = has_by k ks b _ refl (λ g. in_list ks b g) h

pub some_known : (b : ℕ) → some_length b ≡ true → Has kind_of b
unfolding kind_of
some_known b h = from_one (in_list kinds b h)
  where
    from_one : Has (λ n. get_or (map Some kinds) n None) b → Has kind_of b
    from_one (has n k f g) = has (suc n) k f g
