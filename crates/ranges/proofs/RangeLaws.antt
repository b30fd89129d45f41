-- The loop of a range: the granules so far are done, and the next is done too or ends the range.
use mathlib.Core.Path.{◌≡◌, refl, sym, ap, ◌∙◌}
use mathlib.Core.List.{List}
use Prim.Native.Nat.{ℕ, suc, ◌+◌, ◌-◌, ◌<◌, ◌≤◌}
use native.Mathlib.Nat.{add-zero}
use native.Mathlib.Omega.{arith}
use lib.ListN.{length}
use Rattle.std.specs.Prelude.{Ok, Err}
use Rattle.runs.specs.Run.{Step, took, refuses, complete, refused, ended, after, onward, run}
use Rattle.runs.proofs.Runs.{joins}
use Rattle.granules.proofs.StepLaws.{beyond_row}
use Rattle.granules.specs.Step.{Place, place, Refusal, is_damaged, not_done, row_step, stop_by, one_end}
use Rattle.granules.specs.declared.kinds.Operation.{Operation}
use Rattle.granules.specs.declared.step.StepError.{StepError}
use Rattle.granules.specs.declared.step.StepError.TheVariants.{NotDone, Damaged}

-- d granules of slot v from g on are done, and the words stand as here
pub record Going (o : Operation) (v : ℕ) (row₀ frames₀ : List ℕ) (g : ℕ) (row frames : List ℕ) (d : ℕ) : Type 0 where
  pub rows : length row ≡ length row₀
  pub so : run (row_step o v (length row₀)) d (place row₀ frames₀ g) ≡ ended d (place row frames (g + d)) complete

-- a step that ends at once ends every run that it begins
ends_all : (step : Place → Step Place Refusal) (n : ℕ) (s t : Place) (r : Refusal) → run step 1 s ≡ ended 0 t (refused r) → run step (suc n) s ≡ ended 0 t (refused r)
ends_all step n s t r e = on (step s) e
  where
    on : (o : Step Place Refusal) → onward (λ u. ended 0 u complete) s o ≡ ended 0 t (refused r) → onward (λ u. run step n u) s o ≡ ended 0 t (refused r)
    on (took u) e = let z : ◌≡◌ {A = ℕ} 1 0 = cc in absurd (omega arith)
    on (refuses q) e = e

module _ {o : Operation} {v : ℕ} {row₀ frames₀ : List ℕ} {g : ℕ} where
  pub begun : Going o v row₀ frames₀ g row₀ frames₀ 0
  begun = record { rows = refl; so = rw add-zero }

  module _ {row frames : List ℕ} {d : ℕ} (i : Going o v row₀ frames₀ g row frames d) where
    -- the granules so far, and what is left of the run
    left : (m : ℕ) → run (row_step o v (length row₀)) (d + m) (place row₀ frames₀ g) ≡ after d (run (row_step o v (length row)) m (place row frames (g + d)))
    left m = rw i.rows (sym (joins (row_step o v (length row₀)) d m (place row₀ frames₀ g)) ∙ rw i.so)

    module _ {row' frames' : List ℕ} where
      pub more : run (row_step o v (length row)) 1 (place row frames (g + d)) ≡ one_end (Ok tt) row' frames' (g + d) → length row' ≡ length row
          → Going o v row₀ frames₀ g row' frames' (d + 1)
      more e hr =
          let next : suc (g + d) ≡ g + (d + 1) = omega arith in
          record { rows = hr ∙ i.rows; so = left 1 ∙ rw (e, next) }

      halted : (r : Refusal) (limit : ℕ) → d < limit → run (row_step o v (length row)) 1 (place row frames (g + d)) ≡ ended 0 (place row' frames' (g + d)) (refused r)
          → run (row_step o v (length row₀)) limit (place row₀ frames₀ g) ≡ ended d (place row' frames' (g + d)) (refused r)
      halted r limit h e =
          let m = limit - (d + 1) in
          let whole : limit ≡ d + suc m = omega arith in
          rw whole (left (suc m) ∙ ap (after d) (ends_all (row_step o v (length row)) m (place row frames (g + d)) (place row' frames' (g + d)) r e) ∙ rw add-zero)

      -- the next granule can't be done
      pub refused_there : (r : StepError) (limit : ℕ) → d < limit → run (row_step o v (length row)) 1 (place row frames (g + d)) ≡ one_end (Err r) row' frames' (g + d)
          → run (row_step o v (length row₀)) limit (place row₀ frames₀ g) ≡ ended d (place row' frames' (g + d)) (stop_by (Err r))
      refused_there NotDone limit h e = halted not_done limit h e
      refused_there Damaged limit h e = halted is_damaged limit h e

    -- it came to the row's end
    pub row_ended : (limit : ℕ) → d < limit → length row ≤ g + d → run (row_step o v (length row₀)) limit (place row₀ frames₀ g) ≡ ended d (place row frames (g + d)) (refused not_done)
    row_ended limit h b = refused_there NotDone limit h (beyond_row o v (g + d) row frames b)
