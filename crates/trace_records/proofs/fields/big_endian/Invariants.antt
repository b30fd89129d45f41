-- The value is the number of the bytes passed, which fits as they are at most eight.
use Rattle.std.proofs.Common.{take, ◌≡◌, ◌^◌, ◌<◌}
use Rattle.trace_records.specs.Record.{big_endian}
use Rattle.trace_records.proofs.fields.big_endian.Given as goal

abbrev pub invariant-loop-byte : goal.invariant-loop-byte
invariant-loop-byte l = (l.value ≡ big_endian (take l.byte-index l.bytes)) × (l.value < 256 ^ l.byte-index)
