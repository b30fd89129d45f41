-- Document 01, "Verdicts, in the order they are tested".
use Rattle.std.specs.Prelude.{Bool, cond, List, [], ◌∷◌, Result, Ok, Err}
use Rattle.std.proofs.Math.Option.{Option, none, some}
use Rattle.answers.specs.declared.answer.Answer.{Answer}

-- tests in their order, each with what a call answers where it fails
abbrev pub Tests : Type 0 → Type 0
Tests A = List (Bool × A)

abbrev pub first_refusal : {A : Type 0} → Tests A → Option A
first_refusal [] = none
first_refusal (t ∷ ts) = cond t.0 (first_refusal ts) (some t.1)

-- the refusal of some tests, and of one more after them
abbrev pub afterwards : {A : Type 0} → Option A → Bool → A → Option A
afterwards none b a = cond b none (some a)
afterwards (some r) b a = some r

-- what comes of the code's tests, which follow one another by `?`
abbrev pub Admission : Type 0
Admission = Result Unit Answer

-- its refusal
abbrev pub refusal_by : Admission → Option Answer
refusal_by (Ok u) = none
refusal_by (Err a) = some a
