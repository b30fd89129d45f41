-- Document 01, "Guest calls": "The function number is the low 32 bits of R0; the upper half isn't looked at", and the numbers of the table.
use Rattle.std.specs.Prelude.{cond, ℕ, ◌%◌, ◌^◌, eqb}
use Rattle.functions.specs.declared.numbers.Function.{Function}
use Rattle.functions.specs.declared.numbers.Function.TheVariants.{Features, Uid, MemoryInfo, Share, Unshare, GuardInfo, Enroll, GuardMap, GuardUnmap, Relinquish, RangeGuardMap, RangeGuardUnmap, Unknown}

unfoldable pub function_of : ℕ → Function
function_of n =
    cond (eqb n 0x86000000) Features
    (cond (eqb n 0x8600FF01) Uid
    (cond (eqb n 0xC6000002) MemoryInfo
    (cond (eqb n 0xC6000003) Share
    (cond (eqb n 0xC6000004) Unshare
    (cond (eqb n 0xC6000005) GuardInfo
    (cond (eqb n 0xC6000006) Enroll
    (cond (eqb n 0xC6000007) GuardMap
    (cond (eqb n 0xC6000008) GuardUnmap
    (cond (eqb n 0xC6000009) Relinquish
    (cond (eqb n 0xC600000A) RangeGuardMap
    (cond (eqb n 0xC600000B) RangeGuardUnmap
    -- "Anything else answers NS."
    Unknown)))))))))))

abbrev pub asked_by : ℕ → Function
asked_by r0 = function_of (r0 % 2 ^ 32)
