-- Donate, cleared and access keep what every call keeps.
use mathlib.Core.Path.{◌≡◌, refl, ◌∙◌}
use mathlib.Core.Logic.{◌≢◌}
use mathlib.Core.Bool.{false, cond}
use Prim.Native.Nat.{ℕ}
use borrow.Author.Tests.{eq-eqb, ne_eqb}
use lib.Dec.{eqb}
use Rattle.words.specs.declared.map_word.MapWord.TheVariants as map-word
use Rattle.words.specs.declared.frame_word.FrameWord.TheVariants as frame-word
use Rattle.answers.specs.Answer.{numbers_of}
use Rattle.records.specs.Monitor.{guest_of}
use Rattle.commands.specs.State.{State}
use Rattle.commands.specs.Command.{view_of, effected}
use Rattle.records.proofs.MonitorLaws.{lived}
use Rattle.host_donation.specs.Calls.{donated}
use Rattle.host_frames.specs.Calls.{handed_back}
use Rattle.calls.specs.Step.{step}
use Rattle.calls.specs.declared.call.Call.TheVariants.{Donate, Cleared, Access}
use Rattle.history.specs.Log.{FrameChange}
use Rattle.history.specs.Log as log
use Rattle.history.proofs.StateWords.{own, look, lengths_hold_lem, width_is, at_or_not}
use Rattle.history.proofs.WordsSound.{WordsSound}
use Rattle.history.proofs.SoundLaws.{granule_found, frame_found, frame_sound}
use Rattle.history.proofs.NamingPairs.{NameOnlyEachOther, pair_named, pair_apart, FrameFree}
use Rattle.history.proofs.WordMoves.{pair_put, frame_put}
use Rattle.history.proofs.FramesAtGranules.{owner_after}
use Rattle.history.proofs.Preserved.{Preserved, test, sure, call_kept}
use Rattle.history.proofs.StillCalls.{calm_kept}
use Rattle.history.proofs.PassedTests.{hosts_word, waiting_word, vacant_word, granule_undamaged_lem, below_frames, below_width}

-- a call about one frame, which says so in the log
one_logged : (s t : State) (f : ℕ) (c : FrameChange) → own t f ≡ owner_after c → ((k : ℕ) → k ≢ f → own t k ≡ own s k)
    → (k : ℕ) (x : FrameChange) → own s k ≡ owner_after x → own t k ≡ owner_after (cond (eqb k f) c x)
one_logged s t f c here there k x =
    at_or_not (λ n. own s n ≡ owner_after x → own t n ≡ owner_after (cond (eqb n f) c x)) f k
    (λ e. rw (eq-eqb f f refl) here)
    (λ n e. rw (ne_eqb k f n) (there k n ∙ e))

module _ {F W : ℕ} {s : State} (i : WordsSound F W s) where
  pub keep_donate : (v f g : ℕ) → Preserved F W s (Donate v f g) (step (Donate v f g) s)
  unfolding numbers_of own
  keep_donate v f g =
      call_kept i (Donate v f g)
      (test (sure _ (lengths_hold_lem i.sized)) λ a.
      test (λ q. (refl, refl)) λ live.
      test (λ q. (refl, refl)) λ hf.
      test (λ q. (refl, refl)) λ hg.
      test (sure _ (granule_undamaged_lem i v g (lived v (guest_of s.monitor v) live).0 (below_width i g hg))) λ b.
      test (sure _ (frame_sound i f (below_frames i f hf))) λ c.
      test (λ q. (refl, refl)) λ d.
      test (λ q. (refl, refl)) λ e. tt)
      (λ p.
      let living = lived v (guest_of s.monitor v) p.1.0 in
      let slot = living.0 in
      let live = living.1 in
      let inside = below_frames i f p.1.1.0 in
      let below = below_width i g p.1.1.1.0 in
      let host : own s f ≡ frame-word.Host = hosts_word (own s f) (rw (frame_found i f inside) at p.1.1.1.1.1.1.0) in
      let vacant : look W s v g ≡ map-word.Vacant = vacant_word (look W s v g) (rw (granule_found i v g slot below) at p.1.1.1.1.1.1.1.0) in
      let old : NameOnlyEachOther v g f (own s f) (look W s v g) = rw (host, vacant) (pair_apart v g f frame-word.Host map-word.Vacant tt tt) in
      let d = frame-word.Owned v false g in
      let e = map-word.Frame false f in
      let put = (pair_put i v g f slot below inside old d e (pair_named v g f false) live).0 in
      record {
        sound = rw (width_is i.sized) put.sound;
        logged = λ k l x q. one_logged s (effected v s (donated f g (view_of v s))).left f (log.donated v g) put.frame put.frames k x q;
        usual_verdict = refl;
      })

  pub keep_cleared : (f : ℕ) → Preserved F W s (Cleared f) (step (Cleared f) s)
  unfolding numbers_of
  keep_cleared f =
      call_kept i (Cleared f)
      (test (sure _ (lengths_hold_lem i.sized)) λ a.
      test (λ q. (refl, refl)) λ hf.
      test (sure _ (frame_sound i f (below_frames i f hf))) λ b.
      test (λ q. (refl, refl)) λ c. tt)
      (λ p.
      let inside = below_frames i f p.1.0 in
      let waits : own s f ≡ frame-word.Waiting = waiting_word (own s f) (rw (frame_found i f inside) at p.1.1.1.0) in
      let free : FrameFree (own s f) = rw waits tt in
      let put = frame_put i f inside free frame-word.Host tt in
      record {
        sound = put.sound;
        logged = λ k l x q. one_logged s (effected 8 s (handed_back f (view_of 8 s))).left f log.cleared put.frame put.frames k x q;
        usual_verdict = refl;
      })

  pub keep_access : (f : ℕ) → Preserved F W s (Access f) (step (Access f) s)
  unfolding numbers_of
  keep_access f =
      calm_kept i (Access f) (λ f n x. refl)
      (test (sure _ (lengths_hold_lem i.sized)) λ a. test (λ q. (refl, refl)) λ hf. test (sure _ (frame_sound i f (below_frames i f hf))) λ b. tt)
      (λ p. refl)
