-- Document 01, "Verdicts": "Refusals 1 to 9 change nothing"; and a hypercall that is answered with NS or IP.
use Rattle.std.specs.Prelude.{Bool, ◌&&◌, ◌||◌, ◌-◌, ◌^◌, eqb, leb}
use Rattle.answers.specs.declared.answer.Numbers.{Numbers}

-- an answer with verdict 1 to 9, or 10 with −1 or −3
abbrev pub is_refusal : Numbers → Bool
is_refusal a =
    (leb 1 a.verdict && leb a.verdict 9)
    || (eqb a.verdict 10 && (eqb a.v0 (2 ^ 64 - 1) || eqb a.v0 (2 ^ 64 - 3)))
