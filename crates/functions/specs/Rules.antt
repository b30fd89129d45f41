-- Document 01, "Guest calls": what the table asks of registers and of the caller's record, and its errors. "NS is −1, IP is −3."
use Rattle.std.specs.Prelude.{Bool, true, ℕ, ◌%◌, eqb, ltb, negsuc}
use Rattle.words.specs.Granule.{is_base}
use Rattle.answers.specs.Answer.{returned}
use Rattle.answers.specs.declared.answer.Answer.{Answer}
use Rattle.records.specs.declared.guest.Guest.{Guest}
use Rattle.functions.specs.declared.rules.Registers.{Registers}
use Rattle.functions.specs.declared.rules.Rule.{Rule}
use Rattle.functions.specs.declared.rules.Rule.TheVariants.{Any, Zero, NotZero, Base}
use Rattle.functions.specs.declared.rules.Condition.{Condition}
use Rattle.functions.specs.declared.rules.Condition.TheVariants.{Nothing, Vendor, Enrolment}
use Rattle.functions.specs.declared.rules.Error.{Error}
use Rattle.functions.specs.declared.rules.Error.TheVariants.{NotSupported, InvalidParameter}

-- R0 to R3
abbrev pub registers : ℕ → ℕ → ℕ → ℕ → Registers
registers a b c d = record { r0 = a; r1 = b; r2 = c; r3 = d }

-- "A base must be a multiple of 4,096."
abbrev pub meets : Rule → ℕ → Bool
meets Any x = true
meets Zero x = eqb x 0
meets NotZero x = ltb 0 x
meets Base x = is_base x

abbrev pub permits : Condition → Guest → Bool
permits Nothing g = true
permits Vendor g = eqb (g.vendor_hyp % 2) 1
permits Enrolment g = g.enrolled

abbrev pub error_answer : Error → Answer
error_answer NotSupported = returned (negsuc 0) 0
error_answer InvalidParameter = returned (negsuc 2) 0
