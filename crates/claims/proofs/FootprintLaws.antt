-- A range works upward in the caller's row: each step writes one word of the row, and the frame that this word named when the call began.
use mathlib.Core.Path.{◌≡◌, refl, ap, ◌∙◌}
use mathlib.Core.Bool.{Bool}
use mathlib.Core.List.{List}
use Prim.Native.Nat.{ℕ, zero, suc, ◌≤◌, min}
use native.Mathlib.Omega.{arith}
use lib.ListN.{length, get_or}
use Rattle.runs.specs.Run.{took, End, ended, run}
use Rattle.runs.proofs.Kept.{Holds, kept}
use Rattle.words.specs.Granule.{granule_of}
use Rattle.tables.specs.Length.{width_of}
use Rattle.tables.specs.Row.{word_index, word_at}
use Rattle.records.specs.Monitor.{guest_of}
use Rattle.commands.specs.State.{State}
use Rattle.commands.specs.Command.{Effect, view_of, effected}
use Rattle.commands.proofs.CommandLaws.{command_either, performed_other, performed_count}
use Rattle.granules.specs.Step.{Place, place, Refusal, table_step}
use Rattle.ranges.specs.Range.{range_limit}
use Rattle.granules.specs.declared.kinds.Operation.{Operation}
use Rattle.functions.specs.declared.rules.Registers.{Registers}
use Rattle.functions.specs.declared.rules.Error.{Error}
use Rattle.call_table.specs.declared.rows.Action.{Action}
use Rattle.call_table.specs.declared.rows.Action.TheVariants as action
use Rattle.call_table.specs.Table.{granules_of, is_told}
use Rattle.guest_hypercalls.specs.Calls.{finished, act_of, row_for, hypercall_command, hypercall_of}
use Rattle.claims.specs.Footprint.{InRow, NamedInRow, Within}
use Rattle.claims.proofs.Took.{step_took}

-- tables that a call of slot v may leave in s
record Tables (v : ℕ) (s : State) (frames map : List ℕ) : Type 0 where
  frame_length : length frames ≡ length s.frames
  map_length : length map ≡ length s.map
  map_words : (i : ℕ) → (InRow s v i → ⊥) → get_or map i 0 ≡ get_or s.map i 0
  frame_words : (f : ℕ) → (NamedInRow s v f → ⊥) → get_or frames f 0 ≡ get_or s.frames f 0

same_tables : (v : ℕ) (s : State) → Tables v s s.frames s.map
same_tables v s = record { frame_length = refl; map_length = refl; map_words = λ i n. refl; frame_words = λ f n. refl }

-- those that an effect of slot v leaves
abbrev Leaves : ℕ → State → Effect → Type 0
Leaves v s e = Tables v s (effected v s e).left.frames (effected v s e).left.map

-- a range of slot v that began in s, before granule g: it kept within, and the map words from that granule's on are those of s
record RangeWithin (v : ℕ) (s : State) (map frames : List ℕ) (g : ℕ) : Type 0 where
  tables : Tables v s frames map
  ahead : (i : ℕ) → word_index (length s.map) v g ≤ i → get_or map i 0 ≡ get_or s.map i 0

RangeWithinAt : ℕ → State → ℕ → Place → Type 0
RangeWithinAt v s k (place map frames g) = RangeWithin v s map frames g

finished_within : (v : ℕ) (s : State) (e : Error) (tells : Bool) (x : End Place Refusal) → Holds (RangeWithinAt v s) 0 x → Leaves v s (finished e tells x)
unfolding RangeWithinAt
finished_within v s e tells (ended zero (place map frames g) r) h = same_tables v s
finished_within v s e tells (ended (suc k) (place map frames g) r) h = h.tables

module _ (o : Operation) (v : ℕ) (s : State) where
  -- a step that is taken keeps that
  next : (k : ℕ) (p q : Place) → RangeWithinAt v s k p → table_step o v p ≡ took q → RangeWithinAt v s (suc k) q
  unfolding RangeWithinAt
  next k (place map frames g) (place map' frames' g') h e =
      let u = step_took o v map frames g (place map' frames' g') e in
      let w = h.tables in
      let width : width_of (length map) ≡ width_of (length s.map) = ap width_of w.map_length in
      let index : word_index (length map) v g ≡ word_index (length s.map) v g = rw width in
      let word : word_at map v g ≡ word_at s.map v g = rw index (h.ahead (word_index (length s.map) v g) (omega arith)) in
      record {
        tables = record {
          frame_length = u.frame_length ∙ w.frame_length;
          map_length = u.map_length ∙ w.map_length;
          map_words = λ i n. u.map_words i (λ same. n (omega (arith, index), omega (arith, index, width, u.below))) ∙ w.map_words i n;
          frame_words = λ f n. u.frame_words f (λ b named. n (record {
            granule = g;
            below = rw width at u.below;
            sharing = b;
            named = rw word at named;
          })) ∙ w.frame_words f n;
        };
        ahead = λ i l. u.map_words i (omega (arith, index, u.next_granule)) ∙ h.ahead i (omega (arith, u.next_granule));
      }

  range_within : (n g : ℕ) → Holds (RangeWithinAt v s) 0 (run (table_step o v) n (place s.map s.frames g))
  unfolding RangeWithinAt
  range_within n g =
      kept (RangeWithinAt v s) (table_step o v) next n 0 (place s.map s.frames g) (record { tables = same_tables v s; ahead = λ i l. refl })

act_within : (v : ℕ) (r : Registers) (e : Error) (a : Action) (s : State) → Leaves v s (act_of r e a (view_of v s))
unfolding act_of
act_within v r e action.Refuse s = same_tables v s
act_within v r e (action.Tell r0 r1 r2 r3) s = same_tables v s
act_within v r e action.Enroll s = same_tables v s
act_within v r e (action.Change o n) s =
    let k = min range_limit (granules_of n r.r2) in
    let g = granule_of r.r1 in
    finished_within v s e (is_told n) (run (table_step o v) k (place s.map s.frames g)) (range_within o v s k g)

-- for any state, any lengths and any slot
pub hypercall_within : (v : ℕ) (r : Registers) (s : State) → Within v s (hypercall_of v r s).left
unfolding hypercall_of
hypercall_within v r s =
    let call = hypercall_command v r in
    let row = row_for r (guest_of s.monitor v) in
    let t = command_either (Leaves v s) call (view_of v s) (λ a. same_tables v s) (λ e. act_within v r row.error row.action s) in
    record {
      frame_length = t.frame_length;
      map_length = t.map_length;
      record_count = performed_count call s;
      map_words = t.map_words;
      frame_words = t.frame_words;
      records = performed_other call s;
    }
