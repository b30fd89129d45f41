-- How a hypercall's work on granules comes out.
use mathlib.Core.Path.{◌≡◌, refl}
use mathlib.Core.Bool.{Bool, false, cond}
use mathlib.Core.List.{List}
use Prim.Native.Nat.{ℕ, zero, suc, ◌<◌}
use native.Mathlib.Omega.{arith}
use lib.IntN.{pos}
use Rattle.words.proofs.Booleans.{never}
use Rattle.runs.specs.Run.{Stop, ended, run}
use Rattle.runs.proofs.Runs.{StandsAt, run_none}
use Rattle.answers.specs.Answer.{returned}
use Rattle.commands.specs.Command.{View, decision, result_with, result_by}
use Rattle.records.specs.declared.change.Change.TheVariants.{Kept}
use Rattle.granules.specs.Step.{place, Refusal, table_step}
use Rattle.granules.specs.declared.kinds.Operation.{Operation}
use Rattle.words.specs.Granule.{granule_of}
use Rattle.functions.specs.declared.rules.Error.{Error}
use Rattle.call_table.specs.Table.{granules_of, is_told}
use Rattle.call_table.specs.declared.rows.Count.{Count}
use Rattle.call_table.specs.declared.rows.Count.TheVariants.{One, Asked, AskedOrOne}
use Rattle.guest_hypercalls.specs.Calls.{done_answer, finished}

-- a call that tells no number works on one granule
pub untold_one : (n : Count) (x : ℕ) → is_told n ≡ false → granules_of n x ≡ 1
untold_one One x h = refl
untold_one Asked x h = never cc
untold_one AskedOrOne x h = never cc

-- what is told of granules that were done
pub some_done : (e : Error) (t : Bool) (k : ℕ) (r : Stop Refusal) → 0 < k → returned (pos 0) (cond t k 0) ≡ done_answer e t k r
some_done e t zero r h = absurd (omega arith)
some_done e t (suc k) r h = refl

-- a range that ended so, and one that did nothing found these tables
ended_result : (x : View) (g : ℕ) (e : Error) (t : Bool) (k : ℕ) (map frames : List ℕ) (h : ℕ) (r : Stop Refusal)
    → StandsAt (place x.map x.frames g) (ended k (place map frames h) r)
    → result_with frames map (decision Kept (done_answer e t k r)) ≡ result_by x (finished e t (ended k (place map frames h) r))
ended_result x g e t zero map frames h r at =
    let m : map ≡ x.map = cc in
    let f : frames ≡ x.frames = cc in
    rw (m, f)
ended_result x g e t (suc k) map frames h r at = refl

pub range_result : (o : Operation) (v n b : ℕ) (x : View) (e : Error) (t : Bool) (k : ℕ) (map frames : List ℕ) (h : ℕ) (r : Stop Refusal)
    → run (table_step o v) n (place x.map x.frames (granule_of b)) ≡ ended k (place map frames h) r
    → result_with frames map (decision Kept (done_answer e t k r)) ≡ result_by x (finished e t (run (table_step o v) n (place x.map x.frames (granule_of b))))
range_result o v n b x e t k map frames h r is =
    let start = place x.map x.frames (granule_of b) in
    rw is (ended_result x (granule_of b) e t k map frames h r (rw is at (run_none (table_step o v) n start)))
