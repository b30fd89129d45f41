-- What holds of every history: any calls, with any arguments, refused ones too, from fresh tables of any lengths that document 01 allows.
use mathlib.Core.Path.{◌≡◌, refl, ap, subst, ◌∙◌}
use mathlib.Core.Bool.{true, false}
use mathlib.Core.List.{List}
use Prim.Native.Nat.{ℕ, ◌*◌, ◌/◌, ◌%◌, ◌<◌, ◌≤◌}
use native.Mathlib.Omega.{arith}
use borrow.Author.Tests.{lt-ltb, le-ltb, le-leb}
use lib.ListN.{length}
use Rattle.runs.specs.Worked.{AsExpected}
use Rattle.words.specs.MapWord.{map_word_of, map_bits}
use Rattle.words.specs.FrameWord.{frame_bits, frame_word_of}
use Rattle.words.specs.declared.map_word.MapWord.TheVariants as map-word
use Rattle.words.specs.declared.frame_word.FrameWord.{FrameWord}
use Rattle.words.specs.declared.frame_word.FrameWord.TheVariants as frame-word
use Rattle.tables.specs.Length.{width_of, frames_hold, map_holds, lengths_hold}
use Rattle.tables.specs.Row.{bounds_of}
use Rattle.pairs.specs.Pair.{pair_of, granule_state, pair_at, frame_state}
use Rattle.pairs.specs.declared.pairs.FrameState.{FrameState}
use Rattle.pairs.specs.declared.pairs.FrameState.TheVariants as frame-state
use Rattle.answers.specs.Answer.{numbers_of, verdict_with}
use Rattle.commands.specs.State.{State}
use Rattle.records.specs.Monitor.{guest_of, with_guest, free_from}
use Rattle.granules.specs.Kind.{change_of}
use Rattle.granules.specs.Step.{step_from}
use Rattle.functions.specs.Function.{function_of}
use Rattle.call_table.specs.Table.{ranged_row_of, legacy_row_of}
use Rattle.guest_hypercalls.specs.Calls.{act_of, hypercall_of}
use Rattle.rows.specs.WholeRow.{row_vacant, undamaged_from, frames_freed, frames_named}
use Rattle.host_donation.specs.Calls.{donate_of}
use Rattle.host_frames.specs.Calls.{open_to, host_access_of, cleared_of}
use Rattle.host_guests.specs.Calls.{create_of, run_of}
use Rattle.host_removal.specs.Calls.{remove_of}
use Rattle.calls.specs.Step.{step, state_after, fresh_state}
use Rattle.calls.specs.declared.call.Call.{Call}
use Rattle.calls.specs.declared.call.Call.TheVariants.{Access}
use Rattle.history.specs.Log.{FrameChange, never_donated, donated, shared, unshared, relinquished, owner_removed, cleared, open_after, last_change, after_hypercall}
use Rattle.history.specs.History.{log_of, private_or_waiting, no_frame_told, is_usual, NamesFrame}
use Rattle.history.specs.Reachable.{Reachable}
use Rattle.history.specs.Sound.{Sound}
use Rattle.history.specs.Cases.{logs}
use Rattle.history.proofs.StateWords.{own, look, lengths_hold_lem, width_is}
use Rattle.history.proofs.WordsSound.{WordsSound}
use Rattle.history.proofs.SoundLaws.{frame_by, frame_found, frame_sound, words_sound, sound_words}
use Rattle.history.proofs.FramesAtGranules.{owner_after}
use Rattle.history.proofs.CallsKept.{keep, calls_sound, calls_logged, fresh_own, fresh_sound}
use Rattle.history.proofs.UndoShares.{sound_reached}

-- access answers for a frame that its word says to be so
access_seen : {F W : ℕ} {s : State} → WordsSound F W s → (f : ℕ) → f < F → numbers_of (step (Access f) s).answer ≡ verdict_with 0 (open_to (frame_by (own s f)))
unfolding step host_access_of numbers_of
access_seen {F} i f h = rw (lengths_hold_lem i.sized, i.sized.frame_words, lt-ltb f F h, frame_sound i f h, frame_found i f h)

open_after_lem : (c : FrameChange) → open_to (frame_by (owner_after c)) ≡ open_after c
open_after_lem never_donated = refl
open_after_lem (donated v g) = refl
open_after_lem (shared v g) = refl
open_after_lem (unshared v g) = refl
open_after_lem relinquished = refl
open_after_lem owner_removed = refl
open_after_lem cleared = refl

closed : (k : FrameState) → private_or_waiting k ≡ true → open_to k ≡ 0
closed frame-state.Host h = cc
closed frame-state.Waiting h = refl
closed (frame-state.Owned v true g) h = cc
closed (frame-state.Owned v false g) h = refl
closed frame-state.Damaged h = cc

-- Of the exact invariant: every call keeps it.
pub calls_keep_sound : (c : Call) (s : State) → Sound s → Sound (step c s).left
calls_keep_sound c s k = words_sound (keep (sound_words k) c).sound

-- F frame words and 8 × W map words, and calls from there
module _ (F W : ℕ) (frames-some : 1 ≤ F) (frames-few : F ≤ 16384) (width_some : 1 ≤ W) (width_few : W ≤ 4096) where
  allowed : lengths_hold F (8 * W) ≡ true
  unfolding frames_hold map_holds
  allowed =
      let eights : 8 * W % 8 ≡ 0 = omega arith in
      let width : 8 * W / 8 ≡ W = omega arith in
      rw (eights, width, le-leb 1 F frames-some, le-leb F 16384 frames-few, le-leb 1 W width_some, le-leb W 4096 width_few)

  sound : (cs : List Call) → WordsSound F W (state_after cs (fresh_state F W))
  sound cs = calls_sound cs (fresh_state F W) (fresh_sound F W allowed)

  -- it holds of fresh tables, and so in every history
  pub histories_are_sound : (cs : List Call) → Sound (state_after cs (fresh_state F W))
  histories_are_sound cs = words_sound (sound cs)

  -- Condition 2: "After any calls from fresh tables of fixed lengths within document 01's bounds, the host may access a frame exactly when it
  -- was never donated, or when the last change to it was a share by its owner or a confirmed clearing."
  pub host_access_by_history : (cs : List Call) (f : ℕ) → f < F
      → numbers_of (step (Access f) (state_after cs (fresh_state F W))).answer ≡ verdict_with 0 (open_after (last_change (log_of cs (fresh_state F W)) f))
  host_access_by_history cs f h =
      access_seen (sound cs) f h
      ∙ ap (λ (d : FrameWord). verdict_with 0 (open_to (frame_by d))) (calls_logged cs (fresh_state F W) (fresh_sound F W allowed) f h never_donated (fresh_own F W allowed f h))
      ∙ ap (verdict_with 0) (open_after_lem (last_change (log_of cs (fresh_state F W)) f))

  -- and a number of no frame is refused
  pub no_such_frame : (cs : List Call) (f : ℕ) → F ≤ f → numbers_of (step (Access f) (state_after cs (fresh_state F W))).answer ≡ no_frame_told
  unfolding step host_access_of numbers_of
  no_such_frame cs f h =
      let told : verdict_with 4 0 ≡ no_frame_told = refl in
      rw (lengths_hold_lem (sound cs).sized, (sound cs).sized.frame_words, le-ltb f F h) told

  -- In any history no call answers verdict 1 or 6.
  pub no_damage_in_histories : (cs : List Call) (c : Call) → is_usual (numbers_of (step c (state_after cs (fresh_state F W))).answer) ≡ true
  no_damage_in_histories cs c = (keep (sound cs) c).usual_verdict

  -- A frame that is private or waiting is never accessible.
  pub private_or_waiting_closed : (cs : List Call) (f : ℕ) → f < F
      → private_or_waiting (pair_of (state_after cs (fresh_state F W)).frames (state_after cs (fresh_state F W)).map f) ≡ true
      → numbers_of (step (Access f) (state_after cs (fresh_state F W))).answer ≡ verdict_with 0 0
  private_or_waiting_closed cs f h e =
      let s = state_after cs (fresh_state F W) in
      access_seen (sound cs) f h ∙ ap (verdict_with 0) (closed (frame_by (own s f)) (rw (frame_found (sound cs) f h) at e))

  named_back : (cs : List Call) (v g f : ℕ) (p : NamesFrame (state_after cs (fresh_state F W)) v g f)
      → own (state_after cs (fresh_state F W)) f ≡ frame-word.Owned v p.sharing g
  unfolding look
  named_back cs v g f p =
      let i = sound cs in
      let word : look W (state_after cs (fresh_state F W)) v g ≡ map-word.Frame p.sharing f = rw (width_is i.sized) at p.word in
      (i.says_back v p.sharing g f p.slot (omega (arith, width_is i.sized, p.below)) word).1

  -- Two granules never name one frame.
  pub one_granule_per_frame : (cs : List Call) (v g u h f : ℕ)
      → NamesFrame (state_after cs (fresh_state F W)) v g f → NamesFrame (state_after cs (fresh_state F W)) u h f → (v ≡ u) × (g ≡ h)
  one_granule_per_frame cs v g u h f p q =
      let first = named_back cs v g f p in
      let second = named_back cs u h f q in
      (cc, cc)

reachable_sound : (s : State) → Reachable s → Sound s
reachable_sound s r = subst Sound r.leaves (words_sound (calls_sound r.calls (fresh_state r.F r.W) (fresh_sound r.F r.W r.allowed)))

sound_reachable : (s : State) → Sound s → Reachable s
sound_reachable s k =
    let i = sound_words k in
    let F = length s.frames in
    let W = width_of (length s.map) in
    let reached = sound_reached F W i.sized.bounds s i in
    record { F = F; W = W; allowed = i.sized.bounds; calls = reached.calls; fit = reached.fit; leaves = reached.leaves }

-- The invariant is exact: it holds of the states that some calls leave, and of no others.
pub reachable_exactly : (s : State) → (Reachable s → Sound s) × (Sound s → Reachable s)
reachable_exactly s = (reachable_sound s, sound_reachable s)

-- Worked logs: the last change that each says of a frame, and what access then answers.
pub history_cases : AsExpected logs
unfolding step create_of free_from donate_of run_of remove_of cleared_of host_access_of hypercall_of act_of function_of ranged_row_of legacy_row_of step_from change_of row_vacant undamaged_from frames_freed frames_named bounds_of frame_state pair_of granule_state pair_at map_word_of frame_word_of map_bits frame_bits numbers_of guest_of with_guest frames_hold map_holds after_hypercall
history_cases = refl
