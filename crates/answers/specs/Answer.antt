-- Document 01, "Verdicts, in the order they are tested": the verdict and v0 to v3 of each answer.
use Rattle.std.specs.Prelude.{ℕ, ℤ}
use Rattle.words.specs.Register.{register_of}
use Rattle.answers.specs.declared.answer.Answer.{Answer}
use Rattle.answers.specs.declared.answer.Answer.TheVariants.{Done, BadLength, NoGuest, NeverRun, OutOfRange, InUse, Damaged, NoFreeSlot, NotWaiting, RegisterRefused, Return, MmioExit, Exception, Resume}
use Rattle.answers.specs.declared.answer.Numbers.{Numbers}

abbrev pub numbers : ℕ → ℕ → ℕ → ℕ → ℕ → Numbers
numbers q a b c d = record { verdict = q; v0 = a; v1 = b; v2 = c; v3 = d }

-- a verdict with v0 and v1: "values not named are zero"
abbrev pub verdict_with_two : ℕ → ℕ → ℕ → Numbers
verdict_with_two q a b = numbers q a b 0 0

-- and with v0 alone
abbrev pub verdict_with : ℕ → ℕ → Numbers
verdict_with q a = verdict_with_two q a 0

-- a return to the guest with R0 and R1: "Registers not named are returned as zero."
abbrev pub returned : ℤ → ℕ → Answer
returned a b = Return a b 0 0

unfoldable pub numbers_of : Answer → Numbers
numbers_of (Done a) = verdict_with 0 a
numbers_of BadLength = verdict_with 1 0
numbers_of NoGuest = verdict_with 2 0
numbers_of NeverRun = verdict_with 3 0
numbers_of OutOfRange = verdict_with 4 0
numbers_of InUse = verdict_with 5 0
numbers_of Damaged = verdict_with 6 0
numbers_of NoFreeSlot = verdict_with 7 0
numbers_of NotWaiting = verdict_with 8 0
-- "v0 is the signed number"
numbers_of (RegisterRefused x) = verdict_with 9 (register_of x)
-- "return to the guest, v0 to v3 are R0 to R3"
numbers_of (Return a b c d) = numbers 10 (register_of a) b c d
-- "MMIO exit with v0 the IPA; exception; resume; other values zero"
numbers_of (MmioExit a) = verdict_with 11 a
numbers_of Exception = verdict_with 12 0
numbers_of Resume = verdict_with 13 0
