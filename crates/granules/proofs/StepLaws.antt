-- A single step in the row, by the comparison of the granule with one of the kind that is needed.
use mathlib.Core.Path.{◌≡◌}
use mathlib.Core.Bool.{Bool, true, false, cond}
use mathlib.Core.List.{List}
use Prim.Native.Nat.{ℕ, ◌<◌, ◌≤◌}
use Rattle.std.specs.Prelude.{Option, Some, None, Result, Ok, Err}
use native.Mathlib.Nat.{zero-add}
use borrow.Author.Tests.{lt-ltb, le-ltb}
use lib.ListN.{length, get_or, set}
use Rattle.runs.specs.Run.{complete, ended, onward, run}
use Rattle.words.specs.MapWord.{map_bits, map_word_of, bare_word}
use Rattle.words.specs.FrameWord.{frame_bits}
use Rattle.words.specs.declared.map_word.MapWord.TheVariants as map-word
use Rattle.words.specs.declared.frame_word.FrameWord.TheVariants as frame-word
use Rattle.pairs.specs.Pair.{granule_state}
use Rattle.pairs.specs.declared.pairs.GranuleState.{GranuleState}
use Rattle.granules.specs.Comparison.{compared, has_frame, is_shared, is_guarded}
use Rattle.granules.specs.Step.{place, written, step_from, row_step, one_end}
use Rattle.granules.specs.declared.kinds.Operation.{Operation}
use Rattle.granules.specs.declared.step.StepError.{StepError}
use Rattle.granules.specs.declared.step.StepError.TheVariants.{NotDone, Damaged}
use Rattle.granules.proofs.KindLaws.{change_by, change_compared, word_made_lem, owner_made, bare_made}

-- the granule's state, by its word in the row; and how a step at it ends
abbrev state_in : List ℕ → List ℕ → ℕ → ℕ → GranuleState
state_in row frames v g = granule_state frames v g (map_word_of (get_or row g 0))

abbrev Ends : Operation → ℕ → ℕ → List ℕ → List ℕ → Result (Unit {0}) StepError → List ℕ → List ℕ → Type 0
Ends o v g row frames r row' frames' = run (row_step o v (length row)) 1 (place row frames g) ≡ one_end r row' frames' g

module _ (o : Operation) (v g : ℕ) (row frames : List ℕ) where
  pub beyond_row : length row ≤ g → Ends o v g row frames (Err NotDone) row frames
  unfolding step_from
  beyond_row h = rw (le-ltb g (length row) h)

  module _ (h : g < length row) (c : Result (Option ℕ) StepError) (e : c ≡ compared o.needs (state_in row frames v g)) where
    in_row : run (row_step o v (length row)) 1 (place row frames g)
        ≡ onward (λ t. ended 0 t complete) (place row frames g) (written o.makes v g row frames g (change_by o.makes c))
    unfolding step_from
    in_row = rw (lt-ltb g (length row) h, zero-add, change_compared o (state_in row frames v g), ← e)

    -- of another kind, or damaged
    pub differs : (r : StepError) → c ≡ Err r → Ends o v g row frames (Err r) row frames
    differs NotDone q = rw q at in_row
    differs Damaged q = rw q at in_row

    -- without a frame
    module _ (q : c ≡ Ok None) where
      pub bare_left : has_frame o.makes ≡ true → Ends o v g row frames (Err NotDone) row frames
      bare_left m = rw (q, bare_made o.makes, m) at in_row

      pub bare_done : has_frame o.makes ≡ false → (x : ℕ) → x ≡ map_bits (bare_word (is_guarded o.makes)) → Ends o v g row frames (Ok tt) (set row g x) frames
      bare_done m x ex = rw ex (rw (q, bare_made o.makes, m) at in_row)

    -- with frame f
    pub frame_done : (f : ℕ) → c ≡ Ok (Some f) → (b : Bool) → has_frame o.makes ≡ b → (x y : ℕ)
        → x ≡ map_bits (cond b (map-word.Frame (is_shared o.makes) f) (bare_word (is_guarded o.makes)))
        → y ≡ frame_bits (cond b (frame-word.Owned v (is_shared o.makes) g) frame-word.Waiting)
        → Ends o v g row frames (Ok tt) (set row g x) (set frames f y)
    frame_done f q b m x y ex ey = rw (ex, ey) (rw (q, word_made_lem o.makes f, owner_made o.makes v g, m) at in_row)
