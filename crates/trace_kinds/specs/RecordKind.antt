-- Document 01, "Trace program": "Kinds (arguments)", with "2 bytes length of the rest, version byte 1, kind byte, slot byte, then 8-byte arguments".
-- Document 02, Wish 1: "Create gets a second kind (trace kind 11, read as kind 1 is)".
use Rattle.std.specs.Prelude.{Bool, true, false, ◌&&◌, List, [], ◌∷◌, map, ℕ, ◌+◌, ◌*◌, eqb, get_or, Option, Some, None}
use Rattle.std.specs.List.{list_any}
use Rattle.functions.specs.Rules.{registers}
use Rattle.calls.specs.declared.call.Call.{Call}
use Rattle.calls.specs.declared.call.Call.TheVariants as call
use Rattle.trace_kinds.specs.declared.kinds.RecordKind.{RecordKind}
use Rattle.trace_kinds.specs.declared.kinds.RecordKind.TheVariants.{Create, Donate, Run, Hypercall, Abort, Remove, Cleared, Access, RegisterRead, RegisterWrite, CreateLegacy}

-- "version byte 1"
abbrev pub version : ℕ
version = 1

-- the kinds in the order of their numbers, from 1
abbrev pub kinds : List RecordKind
kinds =
    Create ∷ Donate ∷ Run ∷ Hypercall ∷ Abort ∷ Remove ∷ Cleared ∷ Access ∷ RegisterRead ∷ RegisterWrite ∷ CreateLegacy ∷ []

unfoldable pub kind_of : ℕ → Option RecordKind
kind_of n = get_or (None ∷ map Some kinds) n None

-- "Kinds (arguments)"
abbrev pub arguments_of : RecordKind → ℕ
arguments_of Create = 0
arguments_of Donate = 2
arguments_of Run = 0
arguments_of Hypercall = 4
arguments_of Abort = 1
arguments_of Remove = 0
arguments_of Cleared = 1
arguments_of Access = 1
arguments_of RegisterRead = 1
arguments_of RegisterWrite = 2
arguments_of CreateLegacy = 0

-- what a record of a kind asks for, by its slot byte and its arguments; one that it does not have is not looked at. "Create, cleared and access ignore the slot byte."
abbrev pub call_of : RecordKind → ℕ → ℕ → ℕ → ℕ → ℕ → Call
call_of Create slot a b c d = call.Create false
call_of Donate slot a b c d = call.Donate slot a b
call_of Run slot a b c d = call.Run slot
call_of Hypercall slot a b c d = call.Hypercall slot (registers a b c d)
call_of Abort slot a b c d = call.Abort slot a
call_of Remove slot a b c d = call.Remove slot
call_of Cleared slot a b c d = call.Cleared a
call_of Access slot a b c d = call.Access a
call_of RegisterRead slot a b c d = call.RegisterRead slot a
call_of RegisterWrite slot a b c d = call.RegisterWrite slot a b
call_of CreateLegacy slot a b c d = call.Create true

-- "length of the rest": version, kind and slot byte, and eight bytes for each argument
abbrev pub length_of : RecordKind → ℕ
length_of k = 3 + 8 * arguments_of k

-- whether some kind has a length
abbrev pub some_length : ℕ → Bool
some_length n = list_any (λ k. eqb (length_of k) n) kinds

-- of fewer than four bytes: those that are there are as a record begins, a byte that is not there yet counts as right
abbrev pub start_holds : List ℕ → Bool
start_holds s = eqb (get_or s 0 0) 0 && (some_length (get_or s 1 (length_of Create)) && eqb (get_or s 2 version) version)
