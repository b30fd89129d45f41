-- Document 02, Wish 1, of a guest that knows no ranges: "share and unshare want R2 zero, do one granule and return R1 = 0; 0xC6000007 is that
-- document's MMIO guard, with R2 and R3 zero, −3 on error and no enrolment." Such a call is one single step, made from these rules.
use Rattle.std.specs.Prelude.{◌≡◌, true, false, cond, ◌&&◌, [], ◌∷◌, ◌++◌, ℕ, ◌+◌, ◌-◌, ◌^◌, eqb, ltb, length}
use Rattle.runs.specs.Run.{Step, took, refuses, gated}
use Rattle.words.specs.Granule.{granule_size, granule_of, is_base}
use Rattle.tables.specs.Length.{width_of}
use Rattle.pairs.specs.Pair.{pair_at}
use Rattle.answers.specs.Answer.{numbers_of, verdict_with}
use Rattle.commands.specs.State.{State, Answered}
use Rattle.commands.specs.Tests.{Tests, first_refusal}
use Rattle.answers.specs.declared.answer.Numbers.{Numbers}
use Rattle.claims.specs.SingleSteps.{RangeCall, share, unshare, range_guard_map, verdict_tests, granule_tests, changed_at, At, at}
use Rattle.claims.specs.Pieces.{is_range_refusal, differing}

-- share, unshare and the MMIO guard
pub data LegacyCall : Type 0 where
  legacy_share : LegacyCall
  legacy_unshare : LegacyCall
  legacy_guard_map : LegacyCall

abbrev pub legacy_number : LegacyCall → ℕ
legacy_number legacy_share = 0xC6000003
legacy_number legacy_unshare = 0xC6000004
legacy_number legacy_guard_map = 0xC6000007

-- the call of a guest with ranges that needs the same of a granule, and makes the same of it
abbrev pub same_change : LegacyCall → RangeCall
same_change legacy_share = share
same_change legacy_unshare = unshare
same_change legacy_guard_map = range_guard_map

-- "−3 on error"
abbrev pub legacy_error : Numbers
legacy_error = verdict_with 10 (2 ^ 64 - 3)

-- verdicts 1 to 3, then the base with R2 and R3 zero
abbrev pub legacy_call_tests : ℕ → ℕ → ℕ → ℕ → State → Tests Numbers
legacy_call_tests v r2 r3 b s =
    verdict_tests v s ++ ((is_base b && (eqb r2 0 && eqb r3 0), legacy_error) ∷ [])

-- then those of the granule
abbrev pub legacy_tests : LegacyCall → ℕ → ℕ → ℕ → ℕ → State → Tests Numbers
legacy_tests c v r2 r3 b s =
    legacy_call_tests v r2 r3 b s
    ++ granule_tests legacy_error (same_change c) (ltb (granule_of b) (width_of (length s.map))) (pair_at s.frames s.map v (granule_of b))

-- "do one granule"
abbrev pub legacy_step : LegacyCall → ℕ → ℕ → ℕ → At → Step At Numbers
legacy_step c v r2 r3 (at b s) = gated (first_refusal (legacy_tests c v r2 r3 b s)) (took (at (b + granule_size) (changed_at (same_change c) v b s)))

-- what a call at b says by its answer and what it left: it refused, or did the granule there
abbrev pub read_one : ℕ → Answered → Step At Numbers
read_one b r = cond (is_range_refusal (numbers_of r.answer)) (refuses (numbers_of r.answer)) (took (at (b + granule_size) r.left))

-- A call found s. It is the one step; with R0 = 0 it changed one map word and tells nothing else, with any other answer it changed nothing; and
-- it tells R1 = 0.
pub record OneGranule (c : LegacyCall) (v b r2 r3 : ℕ) (s : State) (r : Answered) : Type 0 where
  pub step : read_one b r ≡ legacy_step c v r2 r3 (at b s)
  pub done : is_range_refusal (numbers_of r.answer) ≡ false → (differing s.map r.left.map ≡ 1) × (numbers_of r.answer ≡ verdict_with 10 0)
  pub none : is_range_refusal (numbers_of r.answer) ≡ true → r.left ≡ s
  pub told : (numbers_of r.answer).v1 ≡ 0
