-- Document 01, "Ranges for demand 3": a range cut into pieces, each carried on from where R1 says. It reads nothing but the answers of hypercalls.
use Rattle.std.specs.Prelude.{◌≡◌, Bool, cond, ◌&&◌, not, List, [], ◌∷◌, ℕ, suc, ◌+◌, ◌*◌, ◌<◌, ◌^◌, eqb, length}
use Rattle.runs.specs.Run.{complete, refused, End, ended, pieces}
use Rattle.words.specs.Granule.{granule_size}
use Rattle.records.specs.Monitor.{guest_of}
use Rattle.answers.specs.Answer.{numbers_of}
use Rattle.commands.specs.State.{State, Answered}
use Rattle.answers.specs.declared.answer.Numbers.{Numbers}
use Rattle.guest_hypercalls.specs.Calls.{hypercall_of}
use Rattle.functions.specs.Rules.{registers}
use Rattle.claims.specs.SingleSteps.{At, at}

-- "A call refuses here when its answer isn't verdict 10 with R0 = 0."
abbrev pub is_range_refusal : Numbers → Bool
is_range_refusal a = not (eqb a.verdict 10 && eqb a.v0 0)

-- what the answer of a call at b says: it refused, or it did R1 granules and goes on at b + 4,096 × R1
abbrev pub read_answer : ℕ → State → Numbers → End At Numbers
read_answer b s a = cond (is_range_refusal a) (ended 0 (at b s) (refused a)) (ended a.v1 (at (b + granule_size * a.v1) s) complete)

abbrev pub read_call : ℕ → Answered → End At Numbers
read_call b r = read_answer b r.left (numbers_of r.answer)

-- "make the call with R1 = b and R2 = m"; "Function number, slot and R3 stay the same." The function number is half of R0, so each call has an
-- R0 of its own: r0 b is that of the call made at b.
abbrev pub call_at : (ℕ → ℕ) → ℕ → ℕ → ℕ → At → End At Numbers
call_at r0 v r3 m (at b s) = read_call b (hypercall_of v (registers (r0 b) b m r3) s)

-- "carry on m − k at b + 4,096 × k. Stop when none is left or a call refuses. The next piece starts at the address where the last one ended."
abbrev pub carried_on : (ℕ → ℕ) → ℕ → ℕ → List ℕ → At → End At Numbers
carried_on r0 v r3 ms p = pieces (call_at r0 v r3) ms p

-- document 02, Wish 1: "demand 3 leaves out live old guests only"; of these there is one in slot v
abbrev pub live_legacy : ℕ → State → Bool
live_legacy v s = (guest_of s.monitor v).live && (guest_of s.monitor v).legacy

-- how many words differ
abbrev pub differing : List ℕ → List ℕ → ℕ
differing [] ys = length ys
differing (x ∷ xs) [] = suc (length xs)
differing (x ∷ xs) (y ∷ ys) = cond (eqb x y) (differing xs ys) (suc (differing xs ys))

-- the granules done are the map words that differ from those of s
abbrev pub CountsChanges : State → End At Numbers → Type 0
CountsChanges s (ended k (at b t) r) = k ≡ differing s.map t.map

-- where a call is made
abbrev pub address_in : At → ℕ
address_in (at b s) = b

-- an address that a register holds
abbrev pub AddressFits : At → Type 0
AddressFits (at b s) = b < 2 ^ 64
