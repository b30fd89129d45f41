-- A good record stays one when more bytes follow it, and an unfinished one is short.
use mathlib.Core.Path.{◌≡◌, refl, ap, ◌∙◌, sym}
use mathlib.Core.Bool.{Bool, true, false, cond, ◌&&◌}
use mathlib.Core.List.{List, [], ◌∷◌, ◌++◌}
use Prim.Native.Nat.{ℕ, ◌+◌, ◌≤◌, ◌<◌}
use native.Mathlib.Omega.{arith}
use borrow.Author.Tests.{ltb-true, ltb-false, le-ltb, lt-ltb}
use lib.Dec.{eqb, ltb}
use lib.ListN.{length, length-append}
use Rattle.words.proofs.Booleans.{never}
use Rattle.calls.specs.declared.call.Call.{Call}
use Rattle.std.specs.Prelude.{Option, Some, None, Ok, Err, IsErr}
use Rattle.trace_records.specs.declared.decoding.Record.{Record}
use Rattle.trace_kinds.specs.declared.kinds.RecordKind.{RecordKind}
use Rattle.trace_kinds.specs.RecordKind.{version, kind_of, length_of, start_holds}
use Rattle.trace_records.specs.Record.{Decoded, good_record, bad_record, unfinished, big_endian, kind_in, asked_in, record_in, decode_of}
use Rattle.trace_kinds.proofs.RecordKindLaws.{length_at_most}
use Rattle.trace_records.proofs.AskedLaws.{asked_stays}

-- there is one error
pub an_error : (d : Decoded) → IsErr d → d ≡ bad_record
an_error (Err e) h = refl
an_error (Ok r) h = never h

-- the test of the first three bytes, for the length n of a kind
abbrev pub header : ℕ → ℕ → ℕ → ℕ → Bool
header a b v n = eqb (big_endian (a ∷ b ∷ [])) n && eqb v version

abbrev pub by_header : Bool → Bool → Call → ℕ → Decoded
by_header holds short c n = cond holds (cond short unfinished (good_record c n)) bad_record

-- fewer than four bytes, or those four and more
pub data Seen : List ℕ → Type 0 where
  few : (s : List ℕ) → length s < 4 → Seen s
  enough : (a b v k : ℕ) (s : List ℕ) → Seen (a ∷ b ∷ v ∷ k ∷ s)

pub seen : (s : List ℕ) → Seen s
seen [] = few [] (omega arith)
seen (a ∷ []) = few (a ∷ []) (omega arith)
seen (a ∷ b ∷ []) = few (a ∷ b ∷ []) (omega arith)
seen (a ∷ b ∷ v ∷ []) = few (a ∷ b ∷ v ∷ []) (omega arith)
seen (a ∷ b ∷ v ∷ k ∷ s) = enough a b v k s

pub by_start : (s : List ℕ) → length s < 4 → decode_of s ≡ cond (start_holds s) unfinished bad_record
unfolding decode_of
by_start s h = rw (lt-ltb (length s) 4 h)

pub by_kind : (s : List ℕ) → 4 ≤ length s → decode_of s ≡ record_in (kind_in s) s
unfolding decode_of
by_kind s h = rw (le-ltb (length s) 4 h)

pub four : (a b v k : ℕ) (s : List ℕ) → decode_of (a ∷ b ∷ v ∷ k ∷ s) ≡ record_in (kind_of k) (a ∷ b ∷ v ∷ k ∷ s)
four a b v k s = by_kind (a ∷ b ∷ v ∷ k ∷ s) (omega arith)

-- fewer than four bytes are no good record
short_not_good : (holds : Bool) (c : Call) (n : ℕ) → cond holds unfinished bad_record ≡ good_record c n → ⊥
short_not_good true c n h = never cc
short_not_good false c n h = never cc

-- by the tests of the header and of the length
good_by : (holds short : Bool) (x c : Call) (m n : ℕ) → by_header holds short x m ≡ good_record c n
    → (holds ≡ true) × (short ≡ false) × (x ≡ c) × (m ≡ n)
good_by true true x c m n h = never cc
good_by true false x c m n h =
    let same : ◌≡◌ {A = Record} (record { call = x; size = m }) (record { call = c; size = n }) = cc in
    (refl, refl, ap (λ r. r.call) same, ap (λ r. r.size) same)
good_by false short x c m n h = never cc

-- a good record is at hand whole, has five bytes at least, and stays one
good : (f : Option RecordKind) (a b v k : ℕ) (s t : List ℕ) (c : Call) (n : ℕ) → record_in f (a ∷ b ∷ v ∷ k ∷ s) ≡ good_record c n
    → (4 < n) × (n ≤ length (a ∷ b ∷ v ∷ k ∷ s)) × (record_in f (a ∷ b ∷ v ∷ k ∷ s ++ t) ≡ good_record c n)
good None a b v k s t c n h = never cc
good (Some x) a b v k s t c n h =
    let bytes = a ∷ b ∷ v ∷ k ∷ s in
    let size = 2 + length_of x in
    let g = good_by (header a b v (length_of x)) (ltb (length bytes) size) (asked_in x bytes) c size n h in
    let whole = ltb-false (length bytes) size g.1 in
    let longer : size ≤ length (bytes ++ t) = simp length-append (omega arith) in
    (omega (arith, g.3), omega (arith, g.3), rw (g.0, le-ltb (length (bytes ++ t)) size longer, asked_stays x bytes t whole, g.2, g.3))

good_seen : {s : List ℕ} → Seen s → (t : List ℕ) (c : Call) (n : ℕ) → decode_of s ≡ good_record c n
    → (4 < n) × (n ≤ length s) × (decode_of (s ++ t) ≡ good_record c n)
good_seen (few s l) t c n h = absurd (short_not_good (start_holds s) c n (sym (by_start s l) ∙ h))
good_seen (enough a b v k s) t c n h =
    let g = good (kind_of k) a b v k s t c n (sym (four a b v k s) ∙ h) in
    (g.0, g.1, four a b v k (s ++ t) ∙ g.2)

pub record_size : (s : List ℕ) (c : Call) (n : ℕ) → decode_of s ≡ good_record c n → (4 < n) × (n ≤ length s)
record_size s c n h = let g = good_seen (seen s) [] c n h in (g.0, g.1)

pub record_stays : (s t : List ℕ) (c : Call) (n : ℕ) → decode_of s ≡ good_record c n → decode_of (s ++ t) ≡ good_record c n
record_stays s t c n h = (good_seen (seen s) t c n h).2

-- an unfinished record has a header that holds, and fewer bytes than the longest
pub unfinished_by : (holds short : Bool) (c : Call) (n : ℕ) → by_header holds short c n ≡ unfinished → (holds ≡ true) × (short ≡ true)
unfinished_by true true c n h = (refl, refl)
unfinished_by true false c n h = never cc
unfinished_by false short c n h = never cc

short : (f : Option RecordKind) (a b v k : ℕ) (s : List ℕ) → kind_of k ≡ f → record_in f (a ∷ b ∷ v ∷ k ∷ s) ≡ unfinished
    → length (a ∷ b ∷ v ∷ k ∷ s) < 37
short None a b v k s e h = never cc
short (Some x) a b v k s e h =
    let bytes = a ∷ b ∷ v ∷ k ∷ s in
    let size = 2 + length_of x in
    let u = unfinished_by (header a b v (length_of x)) (ltb (length bytes) size) (asked_in x bytes) size h in
    omega (arith, ltb-true (length bytes) size u.1, length_at_most k x e)

short_seen : {s : List ℕ} → Seen s → decode_of s ≡ unfinished → length s < 37
short_seen (few s l) h = omega arith
short_seen (enough a b v k s) h = short (kind_of k) a b v k s refl (sym (four a b v k s) ∙ h)

pub unfinished_size : (s : List ℕ) → decode_of s ≡ unfinished → length s < 37
unfinished_size s h = short_seen (seen s) h
