-- Every call keeps the invariant and agrees with the log; so does every history.
use mathlib.Core.Path.{◌≡◌, refl, sym, ◌∙◌}
use mathlib.Core.Bool.{true}
use mathlib.Core.List.{List, [], ◌∷◌}
use Prim.Native.Nat.{ℕ, ◌+◌, ◌*◌, ◌<◌}
use lib.ListN.{length, length-replicate, get_or-replicate}
use Rattle.words.specs.MapWord.{map_bits}
use Rattle.words.specs.FrameWord.{frame_bits}
use Rattle.words.specs.declared.map_word.MapWord.TheVariants as map-word
use Rattle.words.specs.declared.frame_word.FrameWord.TheVariants as frame-word
use Rattle.words.proofs.MapWordLaws.{map_decode_encode}
use Rattle.words.proofs.FrameWordLaws.{frame_decode_encode}
use Rattle.words.proofs.Booleans.{never, both_true}
use Rattle.tables.specs.Length.{frames_hold, map_holds, lengths_hold}
use Rattle.answers.specs.Answer.{numbers_of}
use Rattle.records.specs.Monitor.{zero_guest, guest_of}
use Rattle.commands.specs.State.{State}
use Rattle.records.proofs.MonitorLaws.{guest_fresh, lived}
use Rattle.calls.specs.Step.{step, state_after, fresh_state}
use Rattle.calls.specs.declared.call.Call.{Call}
use Rattle.calls.specs.declared.call.Call.TheVariants.{Create, Donate, Run, Remove, Cleared, Access, Show, RegisterRead, RegisterWrite, Hypercall, Abort}
use Rattle.history.specs.Log.{FrameChange, after_call, last_from}
use Rattle.history.specs.History.{log_of}
use Rattle.history.proofs.StateWords.{own, look, index_below, lengths_hold_lem}
use Rattle.history.proofs.WordsSound.{WordsSound}
use Rattle.history.proofs.RecordLaws.{zero_sound}
use Rattle.history.proofs.FramesAtGranules.{owner_after}
use Rattle.history.proofs.Preserved.{Preserved, test, sure}
use Rattle.history.proofs.StillCalls.{calm_kept}
use Rattle.history.proofs.FrameCalls.{keep_donate, keep_cleared, keep_access}
use Rattle.history.proofs.SlotCalls.{keep_create, keep_remove}
use Rattle.history.proofs.GuestCalls.{keep_hypercall, keep_abort}

-- the calls that write no table, by what their tests find
module _ {F W : ℕ} {s : State} (i : WordsSound F W s) where
  keep_run : (v : ℕ) → Preserved F W s (Run v) (step (Run v) s)
  unfolding numbers_of
  keep_run v = calm_kept i (Run v) (λ f n x. refl) (test (λ q. (refl, refl)) λ a. tt) (λ p. (lived v (guest_of s.monitor v) p.0).1)

  keep_show : (v : ℕ) → Preserved F W s (Show v) (step (Show v) s)
  unfolding numbers_of
  keep_show v =
      calm_kept i (Show v) (λ f n x. refl)
      (test (sure _ (both_true (frames_hold (length s.frames)) (map_holds (length s.map)) (lengths_hold_lem i.sized)).1) λ a. test (λ q. (refl, refl)) λ b. tt)
      (λ p. refl)

  keep_read : (v n : ℕ) → Preserved F W s (RegisterRead v n) (step (RegisterRead v n) s)
  unfolding numbers_of
  keep_read v n = calm_kept i (RegisterRead v n) (λ f k x. refl) (test (λ q. (refl, refl)) λ a. test (λ q. (refl, refl)) λ b. tt) (λ p. refl)

  keep_write : (v n y : ℕ) → Preserved F W s (RegisterWrite v n y) (step (RegisterWrite v n y) s)
  unfolding numbers_of
  keep_write v n y =
      calm_kept i (RegisterWrite v n y) (λ f k x. refl)
      (test (λ q. (refl, refl)) λ a. test (λ q. (refl, refl)) λ b. test (λ q. (refl, refl)) λ c. test (λ q. (refl, refl)) λ d. tt)
      (λ p. ((lived v (guest_of s.monitor v) p.0).1, p.1.1.0))

pub keep : {F W : ℕ} {s : State} → WordsSound F W s → (c : Call) → Preserved F W s c (step c s)
keep i (Create legacy) = keep_create i legacy
keep i (Donate v f g) = keep_donate i v f g
keep i (Run v) = keep_run i v
keep i (Remove v) = keep_remove i v
keep i (Cleared f) = keep_cleared i f
keep i (Access f) = keep_access i f
keep i (Show v) = keep_show i v
keep i (RegisterRead v n) = keep_read i v n
keep i (RegisterWrite v n x) = keep_write i v n x
keep i (Hypercall v r) = keep_hypercall i v r
keep i (Abort v a) = keep_abort i v a

module _ {F W : ℕ} where
  pub calls_sound : (cs : List Call) (s : State) → WordsSound F W s → WordsSound F W (state_after cs s)
  calls_sound [] s i = i
  calls_sound (c ∷ cs) s i = calls_sound cs (step c s).left (keep i c).sound

  -- the words say what the log says
  pub calls_logged : (cs : List Call) (s : State) → WordsSound F W s → (f : ℕ) → f < F → (x : FrameChange) → own s f ≡ owner_after x
      → own (state_after cs s) f ≡ owner_after (last_from f x (log_of cs s))
  calls_logged [] s i f h x e = e
  calls_logged (c ∷ cs) s i f h x e =
      calls_logged cs (step c s).left (keep i c).sound f h (after_call f c (numbers_of (step c s).answer) x) ((keep i c).logged f h x e)

-- fresh tables
module _ (F W : ℕ) (bounds : lengths_hold F (8 * W) ≡ true) where
  pub fresh_own : (f : ℕ) → f < F → own (fresh_state F W) f ≡ frame-word.Host
  unfolding own frame_bits
  fresh_own f h = rw (get_or-replicate {A = ℕ} F f 0 0 h) (frame_decode_encode frame-word.Host tt)

  pub fresh_look : (v g : ℕ) → v < 8 → g < W → look W (fresh_state F W) v g ≡ map-word.Vacant
  unfolding look map_bits
  fresh_look v g h l = rw (get_or-replicate {A = ℕ} (8 * W) (v * W + g) 0 0 (index_below W v g h l)) (map_decode_encode map-word.Vacant tt)

  pub fresh_sound : WordsSound F W (fresh_state F W)
  fresh_sound = record {
    sized = record { bounds = bounds; frame_words = length-replicate F 0; map_words = length-replicate (8 * W) 0; guests = length-replicate 8 zero_guest };
    records = λ v h. rw (guest_fresh v) zero_sound;
    whole = λ f h e. let y = sym (fresh_own f h) ∙ e in never cc;
    says = λ v b g f h e. let y = sym (fresh_own f h) ∙ e in never cc;
    says_back = λ v b g f h l e. let y = sym (fresh_look v g h l) ∙ e in never cc;
    holds = λ v g h l. rw (fresh_look v g h l);
  }
