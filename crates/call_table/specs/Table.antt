-- Document 01, "Guest calls": the table of guest calls, row by row; and document 02, Wish 1, the rows of guests that know no ranges.
use Rattle.std.specs.Prelude.{Bool, true, false, cond, ◌&&◌, ℕ, eqb}
use Rattle.words.specs.Granule.{granule_size}
use Rattle.granules.specs.Kind.{sharing, unsharing, guarding, unguarding, relinquishing}
use Rattle.functions.specs.Rules.{meets}
use Rattle.functions.specs.declared.numbers.Function.{Function}
use Rattle.functions.specs.declared.numbers.Function.TheVariants.{Features, Uid, MemoryInfo, Share, Unshare, GuardInfo, Enroll, GuardMap, GuardUnmap, Relinquish, RangeGuardMap, RangeGuardUnmap, Unknown}
use Rattle.functions.specs.declared.rules.Registers.{Registers}
use Rattle.functions.specs.declared.rules.Rule.{Rule}
use Rattle.functions.specs.declared.rules.Rule.TheVariants.{Any, Zero, NotZero, Base}
use Rattle.functions.specs.declared.rules.Condition.{Condition}
use Rattle.functions.specs.declared.rules.Condition.TheVariants.{Nothing, Vendor, Enrolment}
use Rattle.functions.specs.declared.rules.Error.{Error}
use Rattle.functions.specs.declared.rules.Error.TheVariants.{NotSupported, InvalidParameter}
use Rattle.call_table.specs.declared.rows.Count.{Count}
use Rattle.call_table.specs.declared.rows.Count.TheVariants.{One, Asked, AskedOrOne}
use Rattle.call_table.specs.declared.rows.Action.{Action}
use Rattle.call_table.specs.declared.rows.Action.TheVariants as action
use Rattle.call_table.specs.declared.rows.CallRow.{CallRow}

-- how many granules a call is to work on, with n in R2: "Count 0 means 1 for share and unshare"
abbrev pub granules_of : Count → ℕ → ℕ
granules_of One n = 1
granules_of Asked n = n
granules_of AskedOrOne n = cond (eqb n 0) 1 n

-- "Share, unshare and the range guard calls" tell in R1 how many granules they changed
abbrev pub is_told : Count → Bool
is_told One = false
is_told Asked = true
is_told AskedOrOne = true

abbrev pub call_row : Rule → Rule → Rule → Condition → Error → Action → CallRow
call_row a b c d e f = record { r1 = a; r2 = b; r3 = c; condition = d; error = e; action = f }

-- the columns "Registers looked at" and "Answer"; "Features and UID answer NS while VENDOR_HYP bit 0 is clear"; "Guard map and unmap, both
-- kinds, need enrolment"; "a range guard call with count 0 answers NS"
unfoldable pub ranged_row_of : Function → CallRow
ranged_row_of Features = call_row Any Any Any Vendor NotSupported (action.Tell 0xFFD 0 0 0)
ranged_row_of Uid = call_row Any Any Any Vendor NotSupported (action.Tell 0xB66FB428 0xE911C52E 0x564BCAA9 0x743A004D)
ranged_row_of MemoryInfo = call_row Zero Zero Zero Nothing InvalidParameter (action.Tell granule_size 1 0 0)
ranged_row_of Share = call_row Base Any Zero Nothing InvalidParameter (action.Change sharing AskedOrOne)
ranged_row_of Unshare = call_row Base Any Zero Nothing InvalidParameter (action.Change unsharing AskedOrOne)
ranged_row_of GuardInfo = call_row Zero Zero Zero Nothing NotSupported (action.Tell granule_size 1 0 0)
ranged_row_of Enroll = call_row Any Any Any Nothing NotSupported action.Enroll
ranged_row_of GuardMap = call_row Base Any Any Enrolment NotSupported (action.Change guarding One)
ranged_row_of GuardUnmap = call_row Base Any Any Enrolment NotSupported (action.Change unguarding One)
ranged_row_of Relinquish = call_row Base Zero Zero Nothing InvalidParameter (action.Change relinquishing One)
ranged_row_of RangeGuardMap = call_row Base NotZero Any Enrolment NotSupported (action.Change guarding Asked)
ranged_row_of RangeGuardUnmap = call_row Base NotZero Any Enrolment NotSupported (action.Change unguarding Asked)
ranged_row_of Unknown = call_row Any Any Any Nothing NotSupported action.Refuse

-- "memory info returns R1 = 0; share and unshare want R2 zero, do one granule and return R1 = 0; 0xC6000007 is that document's MMIO guard, with
-- R2 and R3 zero, −3 on error and no enrolment. Calls 5, 6, 8, 10 and 11 answer −1; features answers 0x29D." The others are as they were.
unfoldable pub legacy_row_of : Function → CallRow
legacy_row_of Features = call_row Any Any Any Vendor NotSupported (action.Tell 0x29D 0 0 0)
legacy_row_of Uid = ranged_row_of Uid
legacy_row_of MemoryInfo = call_row Zero Zero Zero Nothing InvalidParameter (action.Tell granule_size 0 0 0)
legacy_row_of Share = call_row Base Zero Zero Nothing InvalidParameter (action.Change sharing One)
legacy_row_of Unshare = call_row Base Zero Zero Nothing InvalidParameter (action.Change unsharing One)
legacy_row_of GuardInfo = ranged_row_of Unknown
legacy_row_of Enroll = ranged_row_of Unknown
legacy_row_of GuardMap = call_row Base Zero Zero Nothing InvalidParameter (action.Change guarding One)
legacy_row_of GuardUnmap = ranged_row_of Unknown
legacy_row_of Relinquish = ranged_row_of Relinquish
legacy_row_of RangeGuardMap = ranged_row_of Unknown
legacy_row_of RangeGuardUnmap = ranged_row_of Unknown
legacy_row_of Unknown = ranged_row_of Unknown

-- the table of the caller's kind
abbrev pub call_row_of : Bool → Function → CallRow
call_row_of legacy c = cond legacy (legacy_row_of c) (ranged_row_of c)

abbrev pub registers_hold : CallRow → Registers → Bool
registers_hold w r = meets w.r1 r.r1 && (meets w.r2 r.r2 && meets w.r3 r.r3)
