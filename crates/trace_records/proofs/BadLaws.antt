-- What is bad stays bad when more bytes follow it.
use mathlib.Core.Path.{◌≡◌, refl, ◌∙◌, sym}
use mathlib.Core.Bool.{Bool, true, false, cond}
use mathlib.Core.List.{List, [], ◌∷◌, ◌++◌}
use Prim.Native.Nat.{ℕ, ◌+◌}
use native.Mathlib.Omega.{arith}
use borrow.Author.Tests.{eqb-true, eq-eqb}
use lib.Dec.{eqb, ltb}
use lib.ListN.{length, get_or}
use Rattle.words.proofs.Booleans.{never, both_true, false_unless}
use Rattle.calls.specs.declared.call.Call.{Call}
use Rattle.trace_kinds.specs.declared.kinds.RecordKind.{RecordKind}
use Rattle.std.specs.Prelude.{Option, Some, None}
use Rattle.trace_kinds.specs.RecordKind.{version, kind_of, length_of, some_length, start_holds}
use Rattle.trace_records.specs.Record.{bad_record, unfinished, big_endian, asked_in, record_in, decode_of}
use Rattle.trace_kinds.proofs.RecordKindLaws.{length_at_most, length_some}
use Rattle.trace_records.proofs.DecodeLaws.{header, by_header, Seen, few, enough, seen, by_start, four}

no : {a : Bool} → a ≡ false → a ≡ true → ⊥
no h e = never cc

-- bytes that a record begins with have begun so before
began : (s t : List ℕ) → start_holds (s ++ t) ≡ true → start_holds s ≡ true
began [] t h = refl
began (a ∷ []) t h = rw (both_true (eqb a 0) (start_holds (0 ∷ t)) h).0
began (a ∷ b ∷ []) t h =
    let p = both_true (eqb a 0) (start_holds (0 ∷ b ∷ t)) h in
    rw (p.0, (both_true (some_length b) (eqb (get_or t 0 version) version) p.1).0)
began (a ∷ b ∷ v ∷ s) t h = h

-- a header of a kind begins a record
header_begins : (a b v k : ℕ) (s : List ℕ) (x : RecordKind) → kind_of k ≡ Some x → header a b v (length_of x) ≡ true → start_holds (a ∷ b ∷ v ∷ k ∷ s) ≡ true
header_begins a b v k s x e h =
    let p = both_true (eqb (big_endian (a ∷ b ∷ [])) (length_of x)) (eqb v version) h in
    let same = eqb-true (big_endian (a ∷ b ∷ [])) (length_of x) p.0 in
    let low : b ≡ length_of x = omega (arith, length_at_most k x e) in
    rw (eq-eqb a 0 (omega (arith, length_at_most k x e)), low, length_some k x e, p.1)

-- bytes that no record begins with are bad
no_header : (f : Option RecordKind) (a b v k : ℕ) (s : List ℕ) → kind_of k ≡ f → start_holds (a ∷ b ∷ v ∷ k ∷ s) ≡ false → record_in f (a ∷ b ∷ v ∷ k ∷ s) ≡ bad_record
no_header None a b v k s e h = refl
no_header (Some x) a b v k s e h = rw (false_unless (header a b v (length_of x)) (λ g. no h (header_begins a b v k s x e g)))

no_start : {s : List ℕ} → Seen s → start_holds s ≡ false → decode_of s ≡ bad_record
no_start (few s l) h = by_start s l ∙ rw h
no_start (enough a b v k s) h = four a b v k s ∙ no_header (kind_of k) a b v k s refl h

start_by : (holds : Bool) → cond holds unfinished bad_record ≡ bad_record → holds ≡ false
start_by true h = never cc
start_by false h = refl

header_by : (holds short : Bool) (c : Call) (n : ℕ) → by_header holds short c n ≡ bad_record → holds ≡ false
header_by true true c n h = never cc
header_by true false c n h = never cc
header_by false short c n h = refl

-- a header does not hang on what follows it
header_stays : (f : Option RecordKind) (a b v k : ℕ) (s t : List ℕ) → record_in f (a ∷ b ∷ v ∷ k ∷ s) ≡ bad_record → record_in f (a ∷ b ∷ v ∷ k ∷ s ++ t) ≡ bad_record
header_stays None a b v k s t h = refl
header_stays (Some x) a b v k s t h =
    let bytes = a ∷ b ∷ v ∷ k ∷ s in
    rw (header_by (header a b v (length_of x)) (ltb (length bytes) (2 + length_of x)) (asked_in x bytes) (2 + length_of x) h)

stays : {s : List ℕ} → Seen s → (t : List ℕ) → decode_of s ≡ bad_record → decode_of (s ++ t) ≡ bad_record
stays (few s l) t h =
    let none = start_by (start_holds s) (sym (by_start s l) ∙ h) in
    no_start (seen (s ++ t)) (false_unless (start_holds (s ++ t)) (λ g. no none (began s t g)))
stays (enough a b v k s) t h = four a b v k (s ++ t) ∙ header_stays (kind_of k) a b v k s t (sym (four a b v k s) ∙ h)

-- what is bad stays bad
pub bad_stays : (s t : List ℕ) → decode_of s ≡ bad_record → decode_of (s ++ t) ≡ bad_record
bad_stays s t h = stays (seen s) t h
