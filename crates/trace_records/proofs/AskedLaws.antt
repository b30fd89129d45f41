-- What a whole record asks for does not hang on what follows it, whatever its kind.
use mathlib.Core.Path.{◌≡◌, refl}
use mathlib.Core.Bool.{Bool, true, false}
use mathlib.Core.List.{List, ◌++◌}
use Prim.Native.Nat.{ℕ, ◌+◌, ◌*◌, ◌≤◌, ◌<◌}
use native.Mathlib.Omega.{arith}
use borrow.Author.Tests.{ltb-true}
use lib.Dec.{ltb}
use lib.ListN.{length, drop, length-drop, get_or-append}
use lib.Seq.{take-append-le, drop-append-le}
use Rattle.trace_kinds.specs.RecordKind.{arguments_of, length_of}
use Rattle.trace_kinds.specs.declared.kinds.RecordKind.{RecordKind}
use Rattle.trace_records.specs.Record.{slot_in, argument_in, asked_in}

slot_stays : (s t : List ℕ) → 4 < length s → slot_in (s ++ t) ≡ slot_in s
slot_stays s t h = get_or-append s t 0 4 h

argument_stays : (n k : ℕ) (s t : List ℕ) → 5 + 8 * n ≤ length s → argument_in (s ++ t) n k ≡ argument_in s n k
argument_stays n k s t h = by (ltb k n) refl
  where
    by : (has : Bool) → ltb k n ≡ has → argument_in (s ++ t) n k ≡ argument_in s n k
    by true e =
        let within = ltb-true k n e in
        rw (drop-append-le (5 + 8 * k) s t (omega arith), take-append-le 8 (drop (5 + 8 * k) s) t (simp length-drop (omega arith)))
    by false e = rw e

pub asked_stays : (k : RecordKind) (s t : List ℕ) → 2 + length_of k ≤ length s → asked_in k (s ++ t) ≡ asked_in k s
asked_stays k s t h =
    let n = arguments_of k in
    rw (
      slot_stays s t (omega arith),
      argument_stays n 0 s t (omega arith),
      argument_stays n 1 s t (omega arith),
      argument_stays n 2 s t (omega arith),
      argument_stays n 3 s t (omega arith),
    )
