-- What is unfinished can still become a good record: a record is called bad as soon as it can't.
use mathlib.Core.Path.{◌≡◌, refl, ◌∙◌, sym}
use mathlib.Core.Bool.{Bool, true, false, cond, ◌&&◌}
use mathlib.Core.List.{List, [], ◌∷◌, ◌++◌, append_assoc}
use Prim.Native.Nat.{ℕ, ◌+◌, ◌≤◌}
use native.Mathlib.Omega.{arith}
use borrow.Author.Tests.{eqb-true, le-ltb, eq-eqb}
use lib.Dec.{eqb, ltb}
use lib.ListN.{length, replicate, length-append, length-replicate}
use Rattle.words.proofs.Booleans.{never, both_true}
use Rattle.calls.specs.declared.call.Call.{Call}
use Rattle.trace_kinds.specs.declared.kinds.RecordKind.{RecordKind}
use Rattle.trace_kinds.specs.declared.kinds.RecordKind.TheVariants.{Create}
use Rattle.std.specs.Prelude.{Option, Some, None}
use Rattle.trace_kinds.specs.RecordKind.{version, kind_of, length_of, some_length, start_holds}
use Rattle.trace_records.specs.Record.{good_record, bad_record, unfinished, big_endian, asked_in, record_in, decode_of}
use Rattle.trace_kinds.proofs.RecordKindLaws.{Has, has, some_known}
use Rattle.trace_records.proofs.DecodeLaws.{header, four, unfinished_by}

-- bytes that make a good record of what is there
pub data Finishes (s : List ℕ) : Type 0 where
  finishes : (t : List ℕ) (c : Call) (n : ℕ) → decode_of (s ++ t) ≡ good_record c n → Finishes s

-- with some of the bytes that are still to come
behind : (s u : List ℕ) → Finishes (s ++ u) → Finishes s
behind s u (finishes t c n e) = finishes (u ++ t) c n (rw (← append_assoc s u t) e)

-- four bytes that are a header, with zeros behind them
header_finishes : (a b v k : ℕ) (s : List ℕ) (x : RecordKind) → kind_of k ≡ Some x → header a b v (length_of x) ≡ true → Finishes (a ∷ b ∷ v ∷ k ∷ s)
header_finishes a b v k s x e h =
    let size = 2 + length_of x in
    let zeros = replicate {A = ℕ} size 0 in
    let bytes = a ∷ b ∷ v ∷ k ∷ s ++ zeros in
    let whole : size ≤ length bytes = omega (arith, length-append s zeros, length-replicate {A = ℕ} size 0) in
    finishes zeros (asked_in x bytes) size (four a b v k (s ++ zeros) ∙ rw (e, h, le-ltb (length bytes) size whole))

-- three bytes that a record begins with
three : (a b v : ℕ) → start_holds (a ∷ b ∷ v ∷ []) ≡ true → Finishes (a ∷ b ∷ v ∷ [])
three a b v h =
    let p = both_true (eqb a 0) (some_length b && eqb v version) h in
    let q = both_true (some_length b) (eqb v version) p.1 in
    by (some_known b q.0) (eqb-true a 0 p.0) q.1
  where
    by : Has kind_of b → a ≡ 0 → eqb v version ≡ true → Finishes (a ∷ b ∷ v ∷ [])
    by (has k x e f) zero g =
        behind (a ∷ b ∷ v ∷ []) (k ∷ [])
        (header_finishes a b v k [] x e (rw (eq-eqb (big_endian (a ∷ b ∷ [])) (length_of x) (omega arith), g)))

start_by : (holds : Bool) → cond holds unfinished bad_record ≡ unfinished → holds ≡ true
start_by true h = refl
start_by false h = never cc

by_kind : (f : Option RecordKind) (a b v k : ℕ) (s : List ℕ) → kind_of k ≡ f → record_in f (a ∷ b ∷ v ∷ k ∷ s) ≡ unfinished → Finishes (a ∷ b ∷ v ∷ k ∷ s)
by_kind None a b v k s e h = never cc
by_kind (Some x) a b v k s e h =
    let bytes = a ∷ b ∷ v ∷ k ∷ s in
    let size = 2 + length_of x in
    header_finishes a b v k s x e (unfinished_by (header a b v (length_of x)) (ltb (length bytes) size) (asked_in x bytes) size h).0

-- an unfinished record, with the right bytes behind it, is a good one
pub unfinished_finishes : (s : List ℕ) → decode_of s ≡ unfinished → Finishes s
unfolding decode_of
unfinished_finishes [] h = behind [] (0 ∷ length_of Create ∷ version ∷ []) (three 0 (length_of Create) version refl)
unfinished_finishes (a ∷ []) h = behind (a ∷ []) (length_of Create ∷ version ∷ []) (three a (length_of Create) version (start_by (start_holds (a ∷ [])) h))
unfinished_finishes (a ∷ b ∷ []) h = behind (a ∷ b ∷ []) (version ∷ []) (three a b version (start_by (start_holds (a ∷ b ∷ [])) h))
unfinished_finishes (a ∷ b ∷ v ∷ []) h = three a b v (start_by (start_holds (a ∷ b ∷ v ∷ [])) h)
unfinished_finishes (a ∷ b ∷ v ∷ k ∷ s) h = by_kind (kind_of k) a b v k s refl (sym (four a b v k s) ∙ h)
