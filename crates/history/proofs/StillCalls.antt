-- A call that writes no table: what it answers or does to the record of its slot keeps what every call keeps, by the change alone.
use mathlib.Core.Path.{◌≡◌, refl}
use mathlib.Core.Bool.{true, false}
use Prim.Native.Nat.{ℕ, ◌<◌}
use Rattle.words.specs.declared.map_word.MapWord.{MapWord}
use Rattle.words.specs.declared.map_word.MapWord.TheVariants as map-word
use Rattle.answers.specs.Answer.{numbers_of}
use Rattle.records.specs.Monitor.{zero_guest, new_guest, mark_run, enroll, guest_of}
use Rattle.records.specs.Change.{with_bitmap, with_change}
use Rattle.commands.specs.State.{State, state}
use Rattle.commands.specs.Command.{Success, host_success, guest_success, success_answer, Effect, answer_only, change_record, write_tables, effected, tests_of, effect_of}
use Rattle.records.specs.declared.change.Change.{Change}
use Rattle.records.specs.declared.change.Change.TheVariants as change
use Rattle.answers.specs.declared.answer.Numbers.{Numbers}
use Rattle.records.proofs.MonitorLaws.{live_slot}
use Rattle.commands.proofs.TestLaws.{Passes}
use Rattle.host_registers.specs.Registers.{within_limit}
use Rattle.calls.specs.Step.{command_of, step}
use Rattle.calls.specs.declared.call.Call.{Call}
use Rattle.history.specs.Sound.{may_hold}
use Rattle.history.specs.Log.{FrameChange, after_call}
use Rattle.history.proofs.StateWords.{own, look}
use Rattle.history.proofs.WordsSound.{state_by, WordsSound}
use Rattle.history.proofs.RecordMoves.{recorded_sound}
use Rattle.history.proofs.RecordLaws.{new_sound, run_sound, run_holds, enroll_sound, enroll_holds, bitmap_flags, flags_hold, bitmap_sound}
use Rattle.history.specs.History.{is_usual}
use Rattle.history.proofs.Preserved.{Preserved, Refusals, slot_in, seen_in, call_kept}

-- a record that is not a guest's lets a granule hold nothing
dead_vacant : (d : MapWord) → may_hold zero_guest (state_by d) ≡ true → d ≡ map-word.Vacant
dead_vacant map-word.Vacant h = refl
dead_vacant (map-word.Frame true f) h = cc
dead_vacant (map-word.Frame false f) h = cc
dead_vacant map-word.Guarded h = cc
dead_vacant map-word.Damaged h = cc

-- what a change of slot v's record must find in a sound state. A removal alone is never sound: the row would stay.
abbrev pub Allows : State → ℕ → Change → Type 0
Allows s v change.Kept = Unit {0}
Allows s v (change.Created legacy) = (v < 8) × ((guest_of s.monitor v).live ≡ false)
Allows s v change.Removed = ⊥
Allows s v change.Run = (guest_of s.monitor v).live ≡ true
Allows s v change.Enrolled = ((guest_of s.monitor v).live ≡ true) × ((guest_of s.monitor v).run ≡ true)
Allows s v (change.Written r y) = ((guest_of s.monitor v).live ≡ true) × (within_limit r y ≡ true)

abbrev pub Mild : State → ℕ → Effect → Type 0
Mild s v (answer_only a) = is_usual (numbers_of a) ≡ true
Mild s v (change_record d y) = Allows s v d
Mild s v (write_tables f m d y) = ⊥

success_usual : (y : Success) → is_usual (numbers_of (success_answer y)) ≡ true
unfolding numbers_of
success_usual (host_success n) = refl
success_usual (guest_success n) = refl

module _ {F W : ℕ} {s : State} (i : WordsSound F W s) where
  -- a slot that is not live has a vacant row
  pub dead_row : (v g : ℕ) → v < 8 → g < W → (guest_of s.monitor v).live ≡ false → look W s v g ≡ map-word.Vacant
  dead_row v g h l e = dead_vacant (look W s v g) (rw ((i.records v h).dead e) at (i.holds v g h l))

  pub change_sound : (v : ℕ) (d : Change) → Allows s v d → WordsSound F W (state s.frames s.map (with_change s.monitor v d))
  change_sound v change.Kept a = i
  change_sound v (change.Created legacy) a = recorded_sound i v (new_guest legacy) (new_sound legacy) (λ g l q. rw (dead_row v g a.0 l a.1))
  change_sound v change.Removed a = absurd a
  change_sound v change.Run a =
      let g = guest_of s.monitor v in
      recorded_sound i v (mark_run g) (run_sound g (i.records v (live_slot s.monitor v a)) a) (λ h l q. run_holds g (state_by (look W s v h)) q)
  change_sound v change.Enrolled a =
      let g = guest_of s.monitor v in
      recorded_sound i v (enroll g) (enroll_sound g (i.records v (live_slot s.monitor v a.0)) a.0 a.1) (λ h l q. enroll_holds g (state_by (look W s v h)) q)
  change_sound v (change.Written r y) a =
      let g = guest_of s.monitor v in
      recorded_sound i v (with_bitmap r y g) (bitmap_sound r y g (i.records v (live_slot s.monitor v a.0)) a.0 a.1)
      (λ h l q. flags_hold g (with_bitmap r y g) (bitmap_flags r y g) (state_by (look W s v h)) q)

  -- such a call changes no frame; so it is in order where the log says of it that it changes none
  pub still_kept : (c : Call) (v : ℕ) (d : Effect) → Mild s v d → ((f : ℕ) (x : FrameChange) → after_call f c (numbers_of (effected v s d).answer) x ≡ x)
      → Preserved F W s c (effected v s d)
  unfolding own
  still_kept c v (answer_only a) m quiet = record { sound = i; logged = λ f l x e. rw (quiet f x) e; usual_verdict = m }
  still_kept c v (change_record d y) m quiet = record { sound = change_sound v d m; logged = λ f l x e. rw (quiet f x) e; usual_verdict = success_usual y }
  still_kept c v (write_tables f m d y) k quiet = absurd k

  -- a call that the log says nothing of, by its refusals and by what its tests find
  pub calm_kept : (c : Call) → ((f : ℕ) (n : Numbers) (x : FrameChange) → after_call f c n x ≡ x) → Refusals (tests_of (command_of c) (seen_in s c))
      → (Passes (tests_of (command_of c) (seen_in s c)) → Mild s (slot_in s c) (effect_of (command_of c) (seen_in s c))) → Preserved F W s c (step c s)
  calm_kept c quiet r m = call_kept i c r (λ p. still_kept c (slot_in s c) (effect_of (command_of c) (seen_in s c)) (m p) (λ f x. quiet f _ x))
