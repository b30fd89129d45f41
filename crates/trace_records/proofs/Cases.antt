-- Worked records, closed by computing them.
use mathlib.Core.Path.{refl}
use mathlib.Core.Bool.{true, false}
use mathlib.Core.List.{List, [], ◌∷◌, ◌++◌}
use Prim.Native.Nat.{ℕ}
use Rattle.runs.specs.Worked.{Case, AsExpected}
use Rattle.functions.specs.Rules.{registers}
use Rattle.calls.specs.declared.call.Call.TheVariants as call
use Rattle.trace_kinds.specs.RecordKind.{kind_of}
use Rattle.trace_records.specs.Record.{Decoded, good_record, bad_record, unfinished, decode_of}

-- eight bytes with all places different
abbrev pub bytes : List ℕ
bytes = 1 ∷ 2 ∷ 3 ∷ 4 ∷ 5 ∷ 6 ∷ 7 ∷ 8 ∷ []

-- an argument below 256
abbrev small : ℕ → List ℕ
small n = 0 ∷ 0 ∷ 0 ∷ 0 ∷ 0 ∷ 0 ∷ 0 ∷ n ∷ []

-- bytes, and what they decode to
abbrev record_case : List ℕ → Decoded → Case Decoded
record_case s d = record { found = decode_of s; expected = d }

abbrev pub cases : List (Case Decoded)
cases =
    -- an abort of slot 9 at 0x0102030405060708; what follows a record does not count
    record_case (0 ∷ 11 ∷ 1 ∷ 5 ∷ 9 ∷ bytes) (good_record (call.Abort 9 0x0102030405060708) 13)
    ∷ record_case ((0 ∷ 11 ∷ 1 ∷ 5 ∷ 9 ∷ bytes) ++ bytes) (good_record (call.Abort 9 0x0102030405060708) 13)
    -- the register stands before the value
    ∷ record_case ((0 ∷ 19 ∷ 1 ∷ 10 ∷ 7 ∷ 0 ∷ 0 ∷ 0 ∷ 0 ∷ 0 ∷ 0 ∷ 0 ∷ 2 ∷ []) ++ bytes) (good_record (call.RegisterWrite 7 2 0x0102030405060708) 21)
    ∷ record_case ((0 ∷ 19 ∷ 1 ∷ 2 ∷ 9 ∷ small 3) ++ small 5) (good_record (call.Donate 9 3 5) 21)
    ∷ record_case (0 ∷ 3 ∷ 1 ∷ 3 ∷ 9 ∷ []) (good_record (call.Run 9) 5)
    ∷ record_case ((0 ∷ 35 ∷ 1 ∷ 4 ∷ 9 ∷ small 1) ++ (small 2 ++ (small 3 ++ small 4))) (good_record (call.Hypercall 9 (registers 1 2 3 4)) 37)
    ∷ record_case (0 ∷ 3 ∷ 1 ∷ 6 ∷ 9 ∷ []) (good_record (call.Remove 9) 5)
    ∷ record_case (0 ∷ 11 ∷ 1 ∷ 9 ∷ 7 ∷ bytes) (good_record (call.RegisterRead 7 0x0102030405060708) 13)
    -- the slot byte is ignored
    ∷ record_case (0 ∷ 3 ∷ 1 ∷ 1 ∷ 200 ∷ []) (good_record (call.Create false) 5)
    ∷ record_case (0 ∷ 11 ∷ 1 ∷ 7 ∷ 9 ∷ bytes) (good_record (call.Cleared 0x0102030405060708) 13)
    ∷ record_case (0 ∷ 11 ∷ 1 ∷ 8 ∷ 9 ∷ bytes) (good_record (call.Access 0x0102030405060708) 13)
    ∷ record_case (0 ∷ 3 ∷ 1 ∷ 11 ∷ 200 ∷ []) (good_record (call.Create true) 5)
    -- one byte is missing
    ∷ record_case (0 ∷ 3 ∷ 1 ∷ 1 ∷ []) unfinished
    ∷ record_case (0 ∷ 3 ∷ 1 ∷ 11 ∷ []) unfinished
    -- the beginning of a record, and of none
    ∷ record_case [] unfinished
    ∷ record_case (0 ∷ []) unfinished
    ∷ record_case (1 ∷ []) bad_record
    ∷ record_case (0 ∷ 35 ∷ 1 ∷ []) unfinished
    ∷ record_case (0 ∷ 27 ∷ []) bad_record
    ∷ record_case (0 ∷ 3 ∷ 2 ∷ []) bad_record
    -- the length of another kind, also in its upper byte; another version; no kind
    ∷ record_case (0 ∷ 11 ∷ 1 ∷ 1 ∷ 0 ∷ bytes) bad_record
    ∷ record_case (0 ∷ 11 ∷ 1 ∷ 11 ∷ 0 ∷ bytes) bad_record
    ∷ record_case (1 ∷ 3 ∷ 1 ∷ 1 ∷ 0 ∷ []) bad_record
    ∷ record_case (0 ∷ 3 ∷ 0 ∷ 1 ∷ 0 ∷ []) bad_record
    ∷ record_case (0 ∷ 3 ∷ 1 ∷ 0 ∷ 0 ∷ []) bad_record
    ∷ record_case (0 ∷ 3 ∷ 1 ∷ 12 ∷ 0 ∷ []) bad_record
    ∷ record_case (0 ∷ 3 ∷ 1 ∷ 255 ∷ 0 ∷ []) bad_record
    ∷ []

pub record_cases : AsExpected cases
unfolding decode_of kind_of
record_cases = refl
