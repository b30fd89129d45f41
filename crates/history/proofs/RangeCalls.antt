-- A hypercall that works on granules keeps what every call keeps, and its R1 is what the log needs to know.
use mathlib.Core.Path.{◌≡◌, refl, sym, ap, fun_ext, ◌∙◌}
use mathlib.Core.Bool.{Bool, true, false, cond}
use mathlib.Core.List.{List}
use Prim.Native.Nat.{ℕ, zero, suc, ◌<◌, ◌≤◌}
use native.Mathlib.Nat.{zero-add}
use Rattle.runs.specs.Run.{Stop, complete, refused, out_of_fuel, End, ended, run}
use Rattle.runs.proofs.Runs.{run_at_most}
use Rattle.runs.proofs.Kept.{Holds}
use Rattle.words.specs.Granule.{granule_of}
use Rattle.answers.specs.Answer.{numbers_of}
use Rattle.records.specs.Monitor.{guest_of}
use Rattle.commands.specs.Command.{effected}
use Rattle.commands.specs.State.{State, state}
use Rattle.granules.specs.Kind.{bare, frame_then}
use Rattle.granules.specs.Comparison.{has_frame}
use Rattle.granules.specs.Step.{Place, place, Refusal, is_damaged, not_done, table_step}
use Rattle.granules.specs.declared.kinds.Operation.{Operation}
use Rattle.functions.specs.Function.{asked_by}
use Rattle.functions.specs.Rules.{error_answer}
use Rattle.functions.specs.declared.numbers.Function.{Function}
use Rattle.functions.specs.declared.rules.Registers.{Registers}
use Rattle.functions.specs.declared.rules.Error.{Error}
use Rattle.functions.specs.declared.rules.Error.TheVariants.{NotSupported, InvalidParameter}
use Rattle.guest_hypercalls.specs.Calls.{finished}
use Rattle.calls.specs.declared.call.Call.TheVariants.{Hypercall}
use Rattle.history.specs.Log.{FrameChange, among, changed_where}
use Rattle.history.proofs.StateWords.{own}
use Rattle.history.proofs.WordsSound.{WordsSound}
use Rattle.history.proofs.FramesAtGranules.{owner_after, owner_changed}
use Rattle.history.proofs.Ranges.{may_make, RangeDone, RangeDoneAt, range_done}
use Rattle.history.proofs.Preserved.{Fine, Preserved, refused_kept}
use Rattle.history.proofs.LoggedFunctions.{after_function, after_asked}
use Rattle.history.proofs.Undamaged.{first_refused, step_undamaged}

pub error_fine : (e : Error) → Fine (error_answer e)
unfolding numbers_of
error_fine NotSupported = (refl, refl)
error_fine InvalidParameter = (refl, refl)

-- what was told of a function that is done is what its range did
module _ {F W : ℕ} {s : State} (i : WordsSound F W s) (v : ℕ) (slot : v < 8) (r : Registers) (asked : Function) (is : asked_by r.r0 ≡ asked) where
  abbrev pub g : ℕ
  g = granule_of r.r1

  -- what is done in a range, for a call that tells in R1 how much, or not
  abbrev pub Logs : Operation → Bool → ℕ → Type 0
  Logs o tells k = (map frames : List ℕ) (next : ℕ) → RangeDone F W s.monitor o v s g k map frames next
      → (f : ℕ) → f < F → (x : FrameChange) → own s f ≡ owner_after x
      → own (state frames map s.monitor) f ≡ owner_after (after_function asked v g (cond tells k 0) x)

  done_kept : (o : Operation) (e : Error) (tells : Bool) (j : ℕ) (q : Stop Refusal) (map frames : List ℕ) (next : ℕ) → Logs o tells (suc j)
      → RangeDone F W s.monitor o v s g (suc j) map frames next
      → Preserved F W s (Hypercall v r) (effected v s (finished e tells (ended (suc j) (place map frames next) q)))
  unfolding numbers_of
  done_kept o e tells j q map frames next logs at = record {
    sound = at.sound;
    logged = λ f l x h.
        logs map frames next at f l x h
        ∙ ap owner_after (sym (after_asked v r (cond tells (suc j) 0) x ∙ ap (λ (a : Function). after_function a v g (cond tells (suc j) 0) x) is));
    usual_verdict = refl;
  }

  ended_kept : (o : Operation) (e : Error) (tells : Bool) (n : ℕ) (d : End Place Refusal) → run (table_step o v) n (place s.map s.frames g) ≡ d
      → ((j : ℕ) → suc j ≤ n → Logs o tells (suc j)) → Holds (RangeDoneAt F W s.monitor o v s g) 0 d
      → Preserved F W s (Hypercall v r) (effected v s (finished e tells d))
  ended_kept o e tells n (ended zero (place map frames next) complete) is' logs at = refused_kept i (Hypercall v r) v _ (error_fine e)
  ended_kept o e tells n (ended zero (place map frames next) out_of_fuel) is' logs at = refused_kept i (Hypercall v r) v _ (error_fine e)
  ended_kept o e tells n (ended zero (place map frames next) (refused not_done)) is' logs at = refused_kept i (Hypercall v r) v _ (error_fine e)
  ended_kept o e tells n (ended zero (place map frames next) (refused is_damaged)) is' logs at =
      absurd (step_undamaged i v slot o g (first_refused (table_step o v) n (place s.map s.frames g) (place map frames next) is_damaged is'))
  ended_kept o e tells n (ended (suc j) (place map frames next) q) is' logs at =
      let few : suc j ≤ n = rw is' at (run_at_most (table_step o v) n (place s.map s.frames g)) in
      done_kept o e tells j q map frames next (logs j few) (rw zero-add at at)

  pub change_kept : (o : Operation) (e : Error) (tells : Bool) (n : ℕ) → may_make (guest_of s.monitor v) o.makes ≡ true
      → ((j : ℕ) → suc j ≤ n → Logs o tells (suc j))
      → Preserved F W s (Hypercall v r) (effected v s (finished e tells (run (table_step o v) n (place s.map s.frames g))))
  change_kept o e tells n may logs =
      ended_kept o e tells n (run (table_step o v) n (place s.map s.frames g)) refl logs
      (range_done F W s.monitor o v slot may s.map s.frames g n i)

  -- a frame at one of the granules done is logged as what its word became
  pub moved : (o : Operation) (k n : ℕ) (made : ℕ → ℕ → FrameChange) → k ≡ n → ((u h : ℕ) → frame_then o.makes u h ≡ owner_after (made u h))
      → (map frames : List ℕ) (next : ℕ) → RangeDone F W s.monitor o v s g k map frames next
      → (f : ℕ) → f < F → (x : FrameChange) → own s f ≡ owner_after x
      → own (state frames map s.monitor) f ≡ owner_after (changed_where (among v g n) made x)
  moved o k n made e same map frames next at f l x h =
      let words : frame_then o.makes ≡ (λ u h. owner_after (made u h)) = fun_ext (λ u. fun_ext (λ h. same u h)) in
      at.owners f l ∙ rw (e, words, h) (sym (owner_changed (among v g n) made x))

  -- and a granule that is guarded or unguarded has no frame
  pub unmoved : (o : Operation) (k : ℕ) → has_frame o.needs ≡ false
      → (map frames : List ℕ) (next : ℕ) → RangeDone F W s.monitor o v s g k map frames next
      → (f : ℕ) → f < F → (x : FrameChange) → own s f ≡ owner_after x → own (state frames map s.monitor) f ≡ owner_after x
  unmoved o k bare map frames next at f l x h = at.same bare f l ∙ h
