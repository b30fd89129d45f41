-- Hypercall and abort keep what every call keeps.
use mathlib.Core.Path.{◌≡◌, refl, sym, ap, ◌∙◌}
use mathlib.Core.Bool.{Bool, true, false, cond}
use Prim.Native.Nat.{ℕ, suc, ◌<◌, ◌≤◌, min}
use native.Mathlib.Omega.{arith}
use borrow.Author.Tests.{ne_eqb}
use lib.Dec.{ltb}
use lib.IntN.{pos}
use lib.ListN.{length}
use Rattle.words.specs.Granule.{granule_of}
use Rattle.words.proofs.Booleans.{never}
use Rattle.tables.specs.Length.{width_of}
use Rattle.pairs.specs.Pair.{pair_at, granule_undamaged}
use Rattle.pairs.specs.declared.pairs.GranuleState.{GranuleState}
use Rattle.pairs.specs.declared.pairs.GranuleState.TheVariants as granule-state
use Rattle.answers.specs.Answer.{numbers_of}
use Rattle.records.specs.Monitor.{guest_of}
use Rattle.commands.specs.State.{State}
use Rattle.commands.specs.Command.{guest_success, change_record, view_of, effected}
use Rattle.records.specs.declared.change.Change.TheVariants.{Enrolled}
use Rattle.answers.specs.declared.answer.Answer.TheVariants.{MmioExit, Exception, Return}
use Rattle.records.specs.declared.guest.Guest.{Guest}
use Rattle.records.proofs.MonitorLaws.{live_slot, lived}
use Rattle.granules.specs.Kind.{sharing, unsharing, guarding, unguarding, relinquishing, frame_then}
use Rattle.granules.specs.Comparison.{has_frame}
use Rattle.granules.specs.declared.kinds.Operation.{Operation}
use Rattle.ranges.specs.Range.{range_limit}
use Rattle.functions.specs.Function.{asked_by}
use Rattle.functions.specs.Rules.{permits}
use Rattle.call_table.specs.Table.{granules_of, is_told, ranged_row_of, legacy_row_of, call_row_of}
use Rattle.functions.specs.declared.numbers.Function.{Function}
use Rattle.functions.specs.declared.numbers.Function.TheVariants.{Features, Uid, MemoryInfo, Share, Unshare, GuardInfo, Enroll, GuardMap, GuardUnmap, Relinquish, RangeGuardMap, RangeGuardUnmap, Unknown}
use Rattle.call_table.specs.declared.rows.Count.{Count}
use Rattle.call_table.specs.declared.rows.Count.TheVariants.{One, Asked, AskedOrOne}
use Rattle.call_table.specs.declared.rows.Action.{Action}
use Rattle.call_table.specs.declared.rows.Action.TheVariants as action
use Rattle.call_table.specs.declared.rows.CallRow.{CallRow}
use Rattle.functions.specs.declared.rules.Registers.{Registers}
use Rattle.functions.specs.declared.rules.Error.{Error}
use Rattle.guest_callers.specs.Callers.{caller_tests}
use Rattle.guest_hypercalls.specs.Calls.{row_tests, act_of}
use Rattle.guest_aborts.specs.Calls.{access_answer, unbacked, guest_access_of}
use Rattle.calls.specs.Step.{step}
use Rattle.calls.specs.declared.call.Call.TheVariants.{Hypercall, Abort}
use Rattle.history.specs.Log.{FrameChange, shared, unshared, relinquished, among, changed_where, told_granules}
use Rattle.history.proofs.StateWords.{lengths_hold_lem}
use Rattle.history.proofs.WordsSound.{WordsSound}
use Rattle.history.proofs.FramesAtGranules.{owner_after}
use Rattle.history.proofs.Ranges.{may_make}
use Rattle.history.proofs.StillCalls.{still_kept, calm_kept}
use Rattle.history.specs.History.{is_usual}
use Rattle.history.proofs.Preserved.{Fine, Preserved, test, sure, refused_kept, call_kept, refusals_then, passes_both}
use Rattle.history.proofs.PassedTests.{granule_undamaged_lem, below_width}
use Rattle.history.proofs.LoggedFunctions.{after_function, after_asked}
use Rattle.history.proofs.RangeCalls.{error_fine, change_kept, moved, unmoved}

-- what a share or unshare tells that did granules is read as the number of them, whatever it counts
told_granules_lem : (n : Count) (x j : ℕ) → suc j ≤ min range_limit (granules_of n x) → suc j ≡ told_granules (cond (is_told n) (suc j) 0)
told_granules_lem One x j h = omega arith
told_granules_lem Asked x j h = rw (ne_eqb (suc j) 0 (omega arith))
told_granules_lem AskedOrOne x j h = rw (ne_eqb (suc j) 0 (omega arith))

module _ {F W : ℕ} {s : State} (i : WordsSound F W s) (v : ℕ) (r : Registers) (live : (guest_of s.monitor v).live ≡ true) (has_run : (guest_of s.monitor v).run ≡ true) where
  abbrev slot : v < 8
  slot = live_slot s.monitor v live

  abbrev guest : Guest
  guest = guest_of s.monitor v

  -- what each action does
  abbrev Kept : Error → Action → Type 0
  Kept e a = Preserved F W s (Hypercall v r) (effected v s (act_of r e a (view_of v s)))

  refuses_kept : (e : Error) → Kept e action.Refuse
  unfolding act_of
  refuses_kept e = refused_kept i (Hypercall v r) v _ (error_fine e)

  tells_kept : (e : Error) (a b c d : ℕ) → Fine (Return (pos a) b c d) → Kept e (action.Tell a b c d)
  unfolding act_of
  tells_kept e a b c d fine = refused_kept i (Hypercall v r) v _ fine

  module _ (asked : Function) (is : asked_by r.r0 ≡ asked) where
    -- a function that the log does not speak of
    abbrev Unlogged : Type 0
    Unlogged = (g n : ℕ) (x : FrameChange) → after_function asked v g n x ≡ x

    enrolls_kept : Unlogged → (e : Error) → Kept e action.Enroll
    unfolding act_of numbers_of
    enrolls_kept quiet e =
        still_kept i (Hypercall v r) v (change_record Enrolled (guest_success 0)) (live, has_run)
        (λ f x. after_asked v r 0 x ∙ ap (λ (a : Function). after_function a v (granule_of r.r1) 0 x) is ∙ quiet (granule_of r.r1) 0 x)

    -- granules with frames, which the log says became so
    moves_kept : (made : ℕ → ℕ → FrameChange) (o : Operation) (n : Count) → may_make guest o.makes ≡ true
        → ((u h : ℕ) → frame_then o.makes u h ≡ owner_after (made u h))
        → ((j : ℕ) → suc j ≤ min range_limit (granules_of n r.r2) → (g : ℕ) (x : FrameChange)
        → after_function asked v g (cond (is_told n) (suc j) 0) x ≡ changed_where (among v g (suc j)) made x) → (e : Error) → Kept e (action.Change o n)
    unfolding act_of
    moves_kept made o n may same logged e =
        change_kept i v slot r asked is o e (is_told n) (min range_limit (granules_of n r.r2)) may
        (λ j l map frames next at f k x h.
        moved i v slot r asked is o (suc j) (suc j) made refl same map frames next at f k x h
        ∙ ap owner_after (sym (logged j l (granule_of r.r1) x)))

    -- granules without
    guards_kept : (o : Operation) (n : Count) → Unlogged → may_make guest o.makes ≡ true → has_frame o.needs ≡ false
        → (e : Error) → Kept e (action.Change o n)
    unfolding act_of
    guards_kept o n quiet may bare e =
        change_kept i v slot r asked is o e (is_told n) (min range_limit (granules_of n r.r2)) may
        (λ j l map frames next at f k x h.
        unmoved i v slot r asked is o (suc j) bare map frames next at f k x h
        ∙ ap owner_after (sym (quiet (granule_of r.r1) (cond (is_told n) (suc j) 0) x)))

  -- what each row does where nothing bars it
  abbrev RowKept : CallRow → Type 0
  RowKept w = permits w.condition guest ≡ true → Kept w.error w.action

  -- in either table
  of_either : (asked : Function) → (guest.legacy ≡ true → RowKept (legacy_row_of asked)) → RowKept (ranged_row_of asked)
      → RowKept (call_row_of guest.legacy asked)
  of_either asked legacy ranged = on guest.legacy refl
    where
      on : (b : Bool) → guest.legacy ≡ b → RowKept (call_row_of b asked)
      on true e = legacy e
      on false e = ranged

  function_kept : (asked : Function) → asked_by r.r0 ≡ asked → RowKept (call_row_of guest.legacy asked)
  unfolding ranged_row_of legacy_row_of numbers_of
  function_kept Features is = of_either Features (λ k may. tells_kept _ _ _ _ _ (refl, refl)) (λ may. tells_kept _ _ _ _ _ (refl, refl))
  function_kept Uid is = of_either Uid (λ k may. tells_kept _ _ _ _ _ (refl, refl)) (λ may. tells_kept _ _ _ _ _ (refl, refl))
  function_kept MemoryInfo is = of_either MemoryInfo (λ k may. tells_kept _ _ _ _ _ (refl, refl)) (λ may. tells_kept _ _ _ _ _ (refl, refl))
  function_kept Share is =
      let shares : (n : Count) (e : Error) → Kept e (action.Change sharing n) =
      λ n. moves_kept Share is shared sharing n has_run (λ u h. refl) (λ j l g x. rw (← (told_granules_lem n r.r2 j l))) in
      of_either Share (λ k may. shares One _) (λ may. shares AskedOrOne _)
  function_kept Unshare is =
      let unshares : (n : Count) (e : Error) → Kept e (action.Change unsharing n) =
      λ n. moves_kept Unshare is unshared unsharing n live (λ u h. refl) (λ j l g x. rw (← (told_granules_lem n r.r2 j l))) in
      of_either Unshare (λ k may. unshares One _) (λ may. unshares AskedOrOne _)
  function_kept GuardInfo is = of_either GuardInfo (λ k may. refuses_kept _) (λ may. tells_kept _ _ _ _ _ (refl, refl))
  function_kept Enroll is = of_either Enroll (λ k may. refuses_kept _) (λ may. enrolls_kept Enroll is (λ g n x. refl) _)
  function_kept GuardMap is =
      let guards : guest.enrolled ≡ true → (e : Error) → Kept e (action.Change guarding One) =
      λ enrolled. guards_kept GuardMap is guarding One (λ g n x. refl) (rw (enrolled, has_run)) refl in
      of_either GuardMap (λ k may. guards ((i.records v slot).legacy k) _) (λ may. guards may _)
  function_kept GuardUnmap is =
      of_either GuardUnmap (λ k may. refuses_kept _) (λ may. guards_kept GuardUnmap is unguarding One (λ g n x. refl) refl refl _)
  function_kept Relinquish is =
      let gives = moves_kept Relinquish is (λ u h. relinquished) relinquishing One refl (λ u h. refl) (λ j l g x.
      let one : suc j ≡ 1 = omega arith in
      rw one) in
      of_either Relinquish (λ k may. gives _) (λ may. gives _)
  function_kept RangeGuardMap is =
      of_either RangeGuardMap (λ k may. refuses_kept _) (λ may. guards_kept RangeGuardMap is guarding Asked (λ g n x. refl) (rw (may, has_run)) refl _)
  function_kept RangeGuardUnmap is =
      of_either RangeGuardUnmap (λ k may. refuses_kept _) (λ may. guards_kept RangeGuardUnmap is unguarding Asked (λ g n x. refl) refl refl _)
  function_kept Unknown is = of_either Unknown (λ k may. refuses_kept _) (λ may. refuses_kept _)

module _ {F W : ℕ} {s : State} (i : WordsSound F W s) (v : ℕ) where
  pub keep_hypercall : (r : Registers) → Preserved F W s (Hypercall v r) (step (Hypercall v r) s)
  unfolding numbers_of
  keep_hypercall r =
      let g = guest_of s.monitor v in
      let asked = asked_by r.r0 in
      let w = call_row_of g.legacy asked in
      let caller = caller_tests s.frames s.map v g in
      let row = row_tests w r g in
      call_kept i (Hypercall v r)
      (refusals_then caller row
      (test (sure _ (lengths_hold_lem i.sized)) λ a. test (λ q. (refl, refl)) λ b. test (λ q. (refl, refl)) λ c. tt)
      (λ p. test (λ q. error_fine w.error) λ b. test (λ q. error_fine w.error) λ c. tt))
      (λ p.
      let q = passes_both caller row p in
      function_kept i v r (lived v g q.0.1.0).1 q.0.1.1.0 asked refl q.1.1.0)

unbacked_usual : (a : ℕ) (g : Guest) → is_usual (numbers_of (unbacked a g)) ≡ true
unfolding numbers_of
unbacked_usual a g = on g.enrolled
  where
    on : (b : Bool) → is_usual (numbers_of (cond b Exception (MmioExit a))) ≡ true
    on true = refl
    on false = refl

found_usual : (a : ℕ) (g : Guest) (k : GranuleState) → granule_undamaged k ≡ true → is_usual (numbers_of (access_answer a g k)) ≡ true
unfolding numbers_of
found_usual a g granule-state.Vacant h = unbacked_usual a g
found_usual a g (granule-state.Frame b f) h = refl
found_usual a g granule-state.Guarded h = refl
found_usual a g granule-state.Damaged h = never h

module _ {F W : ℕ} {s : State} (i : WordsSound F W s) (v : ℕ) where
  access_usual : (a : ℕ) → v < 8 → is_usual (numbers_of (guest_access_of s.frames s.map v a (guest_of s.monitor v))) ≡ true
  unfolding guest_access_of
  access_usual a slot = on (ltb (granule_of a) (width_of (length s.map))) refl
    where
      on : (b : Bool) → ltb (granule_of a) (width_of (length s.map)) ≡ b
          → is_usual (numbers_of (cond b (access_answer a (guest_of s.monitor v) (pair_at s.frames s.map v (granule_of a))) (unbacked a (guest_of s.monitor v)))) ≡ true
      on true e =
          found_usual a (guest_of s.monitor v) (pair_at s.frames s.map v (granule_of a))
          (granule_undamaged_lem i v (granule_of a) slot (below_width i (granule_of a) e))
      on false e = unbacked_usual a (guest_of s.monitor v)

  pub keep_abort : (a : ℕ) → Preserved F W s (Abort v a) (step (Abort v a) s)
  unfolding numbers_of
  keep_abort a =
      calm_kept i (Abort v a) (λ f n x. refl)
      (test (sure _ (lengths_hold_lem i.sized)) λ b. test (λ q. (refl, refl)) λ c. test (λ q. (refl, refl)) λ d. tt)
      (λ p. access_usual a (lived v (guest_of s.monitor v) p.1.0).0)
