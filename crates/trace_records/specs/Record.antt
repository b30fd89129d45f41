-- Document 01, "Trace program": "Input is records: 2 bytes length of the rest, version byte 1, kind byte, slot byte, then 8-byte arguments,
-- all big-endian."
use Rattle.std.specs.Prelude.{Bool, cond, ◌&&◌, List, [], ◌∷◌, ℕ, ◌+◌, ◌*◌, eqb, ltb, length, get_or, take, drop, Option, Some, None, Result, Ok, Err}
use Rattle.calls.specs.declared.call.Call.{Call}
use Rattle.trace_kinds.specs.RecordKind.{version, kind_of, arguments_of, call_of, length_of, start_holds}
use Rattle.trace_kinds.specs.declared.kinds.RecordKind.{RecordKind}
use Rattle.trace_records.specs.declared.decoding.Record.{Record}
use Rattle.trace_records.specs.declared.decoding.BadRecord.{BadRecord}

-- "all big-endian": the number of some bytes behind n
abbrev pub value_behind : ℕ → List ℕ → ℕ
value_behind n [] = n
value_behind n (b ∷ bs) = value_behind (n * 256 + b) bs

abbrev pub big_endian : List ℕ → ℕ
big_endian s = value_behind 0 s

-- the fields of a record
abbrev pub length_in : List ℕ → ℕ
length_in s = big_endian (take 2 s)

abbrev pub version_in : List ℕ → ℕ
version_in s = get_or s 2 0

abbrev pub kind_in : List ℕ → Option RecordKind
kind_in s = kind_of (get_or s 3 0)

abbrev pub slot_in : List ℕ → ℕ
slot_in s = get_or s 4 0

-- argument k, from 0, of a record that has n; one that it does not have counts as 0
abbrev pub argument_in : List ℕ → ℕ → ℕ → ℕ
argument_in s n k = cond (ltb k n) (big_endian (take 8 (drop (5 + 8 * k) s))) 0

-- what a whole record of a kind asks for
abbrev pub asked_in : RecordKind → List ℕ → Call
asked_in k s =
    let n = arguments_of k in
    call_of k (slot_in s) (argument_in s n 0) (argument_in s n 1) (argument_in s n 2) (argument_in s n 3)

-- "another length, version or kind prints `bad`": the first bytes are those of a record of length n
abbrev pub header_holds : List ℕ → ℕ → Bool
header_holds s n = eqb (length_in s) n && eqb (version_in s) version

-- what the first bytes of a log can be: a good record, which asks for a call, and behind which the next begins; the beginning of one; or bad
abbrev pub Decoded : Type 0
Decoded = Result (Option Record) BadRecord

abbrev pub good_record : Call → ℕ → Decoded
good_record c n = Ok (Some (record { call = c; size = n }))

abbrev pub unfinished : Decoded
unfinished = Ok None

abbrev pub bad_record : Decoded
bad_record = Err (record {})

-- four bytes or more, by the kind found in them: a good record has a call, and the next begins behind it
abbrev pub record_in : Option RecordKind → List ℕ → Decoded
record_in None s = bad_record
record_in (Some k) s =
    let size = 2 + length_of k in
    cond (header_holds s (length_of k))
    (cond (ltb (length s) size) unfinished (good_record (asked_in k s) size))
    bad_record

-- what the first bytes of a log are: bad as soon as no bytes that follow make them a good record, unfinished while some do
unfoldable pub decode_of : List ℕ → Decoded
decode_of s =
    cond (ltb (length s) 4)
    (cond (start_holds s) unfinished bad_record)
    (record_in (kind_in s) s)
