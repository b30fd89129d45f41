-- The value is the number of the bytes passed, which fits as they are at most eight.
use Rattle.std.proofs.Common.{◌+◌, ◌*◌, arith}
use Rattle.trace_records.proofs.FieldLaws.{below_more_bytes, eight_bytes_fit}
use Rattle.trace_records.proofs.fields.big_endian.Goals as goal

pub overflow_mul-value : goal.overflow_mul-value
overflow_mul-value c =
    let l = c.loop-byte in
    let more = below_more_bytes l.value l.byte-index 0 l.invariant.1 (omega arith) in
    omega (arith, eight_bytes_fit (l.value * 256 + 0) (l.byte-index + 1) more (omega arith))
