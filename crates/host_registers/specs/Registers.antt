-- Document 01, "Host calls": "Read or write a firmware bitmap, numbered 0 STD, 1 STD_HYP, 2 VENDOR_HYP."
use Rattle.std.specs.Prelude.{Bool, true, false, cond, not, [], ◌∷◌, ◌++◌, ℕ, eqb, leb, negsuc}
use Rattle.records.specs.Change.{bitmap_of}
use Rattle.commands.specs.State.{State, Answered}
use Rattle.commands.specs.Tests.{Tests}
use Rattle.commands.specs.Command.{no_table, given_slot, host_success, answer_only, change_record, Command, command, performed}
use Rattle.records.specs.declared.guest.Guest.{Guest}
use Rattle.answers.specs.declared.answer.Answer.{Answer}
use Rattle.answers.specs.declared.answer.Answer.TheVariants.{Done, RegisterRefused}
use Rattle.records.specs.declared.change.Change.TheVariants.{Written}
use Rattle.records.specs.declared.change.FirmwareRegister.{FirmwareRegister}
use Rattle.records.specs.declared.change.FirmwareRegister.TheVariants.{Std, StdHyp, VendorHyp, Unknown}

unfoldable pub register_numbered : ℕ → FirmwareRegister
register_numbered n = cond (eqb n 0) Std (cond (eqb n 1) StdHyp (cond (eqb n 2) VendorHyp Unknown))

abbrev pub is_known : FirmwareRegister → Bool
is_known Std = true
is_known StdHyp = true
is_known VendorHyp = true
is_known Unknown = false

-- "The supported limits, also the first values, are 0, 0 and 1."
abbrev pub limit_of : FirmwareRegister → ℕ
limit_of Std = 0
limit_of StdHyp = 0
limit_of VendorHyp = 1
limit_of Unknown = 0

-- "A bit outside the limit": with limits of 0 and 1, a value has one exactly when it is above the limit
abbrev pub within_limit : FirmwareRegister → ℕ → Bool
within_limit r x = leb x (limit_of r)

-- "another register is −2 (ENOENT)", "−22 (EINVAL)", "−16 (EBUSY)": `negsuc n` is −(n + 1)
abbrev pub no_such_register : Answer
no_such_register = RegisterRefused (negsuc 1)

abbrev pub invalid_value : Answer
invalid_value = RegisterRefused (negsuc 21)

abbrev pub busy : Answer
busy = RegisterRefused (negsuc 15)

-- "Order: −2, −22, −16"; "any write after run, even of the same value, is −16"
abbrev pub read_tests : FirmwareRegister → Tests Answer
read_tests r = (is_known r, no_such_register) ∷ []

abbrev pub write_tests : FirmwareRegister → ℕ → Guest → Tests Answer
write_tests r y g = read_tests r ++ ((within_limit r y, invalid_value) ∷ (not g.run, busy) ∷ [])

-- "register read gives the bitmap in v0"
abbrev pub read_command : ℕ → ℕ → Command
read_command v n =
    let r = register_numbered n in
    command no_table (given_slot v) (λ x. read_tests r) (λ x. answer_only (Done (bitmap_of r x.guest)))

unfoldable pub register_read_of : ℕ → ℕ → State → Answered
register_read_of v n s = performed (read_command v n) s

-- a write that is done changes the bitmap and nothing else
abbrev pub write_command : ℕ → ℕ → ℕ → Command
write_command v n y =
    let r = register_numbered n in
    command no_table (given_slot v) (λ x. write_tests r y x.guest) (λ x. change_record (Written r y) (host_success 0))

unfoldable pub register_write_of : ℕ → ℕ → ℕ → State → Answered
register_write_of v n y s = performed (write_command v n y) s
