-- Every sound state is reached: its shared granules were shared.
use mathlib.Core.Path.{◌≡◌, refl, ◌∙◌}
use mathlib.Core.Bool.{true, false}
use Prim.Native.Nat.{ℕ, ◌+◌, ◌*◌, ◌<◌}
use native.Mathlib.Omega.{arith}
use lib.ListN.{set}
use Rattle.words.specs.MapWord.{map_bits}
use Rattle.words.specs.FrameWord.{frame_bits}
use Rattle.words.specs.declared.map_word.MapWord.TheVariants as map-word
use Rattle.words.specs.declared.frame_word.FrameWord.{FrameWord}
use Rattle.words.specs.declared.frame_word.FrameWord.TheVariants as frame-word
use Rattle.words.proofs.Booleans.{never}
use Rattle.tables.specs.Length.{lengths_hold}
use Rattle.records.specs.Monitor.{guest_of}
use Rattle.commands.specs.State.{State, state}
use Rattle.calls.specs.declared.call.Call.TheVariants.{Hypercall}
use Rattle.history.proofs.StateWords.{own, at_most}
use Rattle.history.proofs.WordsSound.{Says, WordsSound}
use Rattle.history.proofs.NamingPairs.{pair_named}
use Rattle.history.proofs.WordMoves.{FramePut, GranulePut, pair_put}
use Rattle.history.proofs.SameState.{frame_back, map_back}
use Rattle.history.proofs.CallsDone.{asking, asking_fits, share_leaves}
use Rattle.history.proofs.Reached.{Reached, reached_next, Undone, undone_put, frames_reached}
use Rattle.history.proofs.UndoGuards.{run_live, is_shared_frame, unshared_reached}

module _ (F W : ℕ) (bounds : lengths_hold F (8 * W) ≡ true) where
  -- of every state
  abbrev Any : State → Type 0
  Any s = Unit {0}

  module _ (s : State) (i : WordsSound F W s) (n : ℕ) (h : n < F) (v g : ℕ) (e : own s n ≡ frame-word.Owned v true g) where
    said : Says W s v true g n
    said = i.says v true g n h e

    has_run : (guest_of s.monitor v).run ≡ true
    has_run = rw said.2 at (i.holds v g said.0 said.1)

    live : (guest_of s.monitor v).live ≡ true
    live = run_live (guest_of s.monitor v) (i.records v said.0) has_run

    abbrev unshared : State
    unshared = state (set s.frames n (frame_bits (frame-word.Owned v false g))) (set s.map (v * W + g) (map_bits (map-word.Frame false n))) s.monitor

    unshared_put : FramePut F W s unshared n (frame-word.Owned v false g) × GranulePut F W s unshared v g (map-word.Frame false n)
    unshared_put =
        pair_put i v g n said.0 said.1 h (rw (e, said.2) (pair_named v g n true)) (frame-word.Owned v false g) (map-word.Frame false n) (pair_named v g n false) live

    share_undone : Reached F W unshared → Reached F W s
    share_undone reached =
        reached_next reached (Hypercall v (asking 0xC6000003 g)) (asking_fits v 0xC6000003 g said.0 (omega arith) (omega (arith, said.1, at_most i.sized)))
        (share_leaves unshared_put.0.sound v live has_run g said.1 n unshared_put.1.granule
        ∙ rw
        (frame_back i n (frame_bits (frame-word.Owned v false g)) (frame-word.Owned v true g) h e, map_back i v g (map_bits (map-word.Frame false n)) (map-word.Frame true n) said.0 said.1 said.2))

  undo : (s : State) → WordsSound F W s → (n : ℕ) → n < F → (d : FrameWord) → own s n ≡ d → is_shared_frame d ≡ true → Undone F W Any is_shared_frame s n
  undo s i n h frame-word.Host e w = never w
  undo s i n h frame-word.Waiting e w = never w
  undo s i n h (frame-word.Owned v true g) e w =
      undone_put (unshared_put s i n h v g e).0 tt refl (share_undone s i n h v g e)
  undo s i n h (frame-word.Owned v false g) e w = never w
  undo s i n h frame-word.Damaged e w = never w

  pub sound_reached : (s : State) → WordsSound F W s → Reached F W s
  sound_reached s i = frames_reached F W Any is_shared_frame (λ t j c none. unshared_reached F W bounds t j none) (λ t j c n h w. undo t j n h (own t n) refl w) s i tt
