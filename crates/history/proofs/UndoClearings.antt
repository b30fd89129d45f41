-- Every sound state without a live guest is reached: each frame that waits was donated to a first guest, which was removed.
use mathlib.Core.Path.{◌≡◌, refl, sym, ap, ◌∙◌}
use mathlib.Core.Logic.{◌≢◌}
use mathlib.Core.Bool.{Bool, true, false}
use mathlib.Core.List.{[]}
use Prim.Native.Nat.{ℕ, ◌+◌, ◌*◌, ◌<◌}
use native.Mathlib.Omega.{arith}
use lib.ListN.{set}
use Rattle.words.specs.FrameWord.{frame_bits}
use Rattle.words.specs.MapWord.{map_bits}
use Rattle.words.specs.declared.map_word.MapWord.TheVariants as map-word
use Rattle.words.specs.declared.frame_word.FrameWord.{FrameWord}
use Rattle.words.specs.declared.frame_word.FrameWord.TheVariants as frame-word
use Rattle.words.proofs.Booleans.{both_true}
use Rattle.pairs.specs.Pair.{frame_waiting}
use Rattle.tables.specs.Length.{frames_hold, map_holds, lengths_hold}
use Rattle.tables.proofs.LengthLaws.{width_between}
use Rattle.records.specs.Monitor.{zero_guest, new_guest, guest_of, with_guest, free_from, free_slot}
use Rattle.commands.specs.State.{State, state}
use Rattle.commands.specs.Command.{view_of, effected}
use Rattle.records.specs.declared.guest.Guest.{Guest}
use Rattle.records.proofs.MonitorLaws.{guest_put, guest_fresh}
use Rattle.host_removal.specs.Calls.{removed}
use Rattle.calls.specs.declared.call.Call.TheVariants.{Create, Donate, Remove}
use Rattle.history.proofs.StateWords.{own, look, width_is, at_or_not, at_most}
use Rattle.history.proofs.WordsSound.{WordsSound}
use Rattle.history.proofs.SoundLaws.{frame_by}
use Rattle.history.proofs.NamingPairs.{pair_named, pair_apart, FrameFree}
use Rattle.history.proofs.WordMoves.{FramePut, GranulePut, pair_put, frame_put}
use Rattle.history.proofs.RecordMoves.{recorded_sound}
use Rattle.history.proofs.RecordLaws.{new_sound}
use Rattle.history.proofs.Removal.{owner_gone}
use Rattle.history.proofs.PassedTests.{waiting_word}
use Rattle.history.proofs.CallsKept.{fresh_own, fresh_look, fresh_sound}
use Rattle.history.proofs.SameState.{guest_back, same_state}
use Rattle.history.proofs.CallsDone.{create_leaves, donate_leaves, remove_leaves}
use Rattle.history.proofs.Reached.{Reached, reached_next, Undone, undone_put, frames_reached}
use Rattle.history.proofs.UndoRemovals.{row_vacant_lem, unowned, owners_stay, removal_leaves}

abbrev pub AllDead : State → Type 0
AllDead s = (v : ℕ) → v < 8 → guest_of s.monitor v ≡ zero_guest

abbrev is_waiting : FrameWord → Bool
is_waiting d = frame_waiting (frame_by d)

host_word : (d : FrameWord) → FrameFree d → is_waiting d ≡ false → d ≡ frame-word.Host
host_word frame-word.Host h n = refl
host_word frame-word.Waiting h n = cc
host_word (frame-word.Owned v b g) h n = absurd h
host_word frame-word.Damaged h n = absurd h

module _ (F W : ℕ) where
  -- a frame of such a state is no guest's
  dead_free : (s : State) → WordsSound F W s → AllDead s → (f : ℕ) → f < F → FrameFree (own s f)
  dead_free s i dead f h = on (own s f) refl
    where
      on : (d : FrameWord) → own s f ≡ d → FrameFree d
      on frame-word.Host e = tt
      on frame-word.Waiting e = tt
      on (frame-word.Owned v b g) e = let slot = (i.says v b g f h e).0 in unowned i v slot (dead v slot) b g f h e
      on frame-word.Damaged e = i.whole f h e

  first_free : (s : State) → AllDead s → free_slot s.monitor ≡ 0
  unfolding free_from
  first_free s dead = rw (dead 0 (omega arith))

  module _ (n : ℕ) (s : State) (i : WordsSound F W s) (dead : AllDead s) (h : n < F) (wide : 0 < W) (e : own s n ≡ frame-word.Waiting) where
    -- the frame is the host's; a guest in slot 0; the frame is donated to its granule 0
    abbrev unclaimed : State
    unclaimed = state (set s.frames n (frame_bits frame-word.Host)) s.map s.monitor

    abbrev joined : State
    joined = state unclaimed.frames s.map (with_guest s.monitor 0 (new_guest false))

    abbrev given : State
    given =
        state (set joined.frames n (frame_bits (frame-word.Owned 0 false 0))) (set s.map (0 * W + 0) (map_bits (map-word.Frame false n))) joined.monitor

    waits : FrameFree (own s n)
    waits = rw e tt

    unclaimed_put : FramePut F W s unclaimed n frame-word.Host
    unclaimed_put = frame_put i n h waits frame-word.Host tt

    vacant : (v g : ℕ) → v < 8 → g < W → look W unclaimed v g ≡ map-word.Vacant
    vacant v g slot l = row_vacant_lem unclaimed_put.sound v slot (dead v slot) g l

    joined_sound : WordsSound F W joined
    joined_sound = recorded_sound unclaimed_put.sound 0 (new_guest false) (new_sound false) (λ g l q. rw (vacant 0 g (omega arith) l))

    first : guest_of joined.monitor 0 ≡ new_guest false
    first = guest_put s.monitor 0 (new_guest false) (omega arith) (omega (arith, i.sized.guests))

    joined_host : own joined n ≡ frame-word.Host
    unfolding own
    joined_host = unclaimed_put.frame

    joined_vacant : look W joined 0 0 ≡ map-word.Vacant
    unfolding look
    joined_vacant = vacant 0 0 (omega arith) wide

    given_put : FramePut F W joined given n (frame-word.Owned 0 false 0) × GranulePut F W joined given 0 0 (map-word.Frame false n)
    given_put =
        pair_put joined_sound 0 0 n (omega arith) wide h (rw (joined_host, joined_vacant) (pair_apart 0 0 n frame-word.Host map-word.Vacant tt tt))
        (frame-word.Owned 0 false 0) (map-word.Frame false n) (pair_named 0 0 n false) (rw first)

    given_other : (f : ℕ) → f ≢ n → own given f ≡ own s f
    unfolding own
    given_other f m = given_put.0.frames f m ∙ unclaimed_put.frames f m

    look_other : (v g : ℕ) → g < W → v ≢ 0 → look W given v g ≡ look W s v g
    unfolding look
    look_other v g l m = given_put.1.granules v g l (λ q. m q.0)

    first_dead : guest_of s.monitor 0 ≡ zero_guest
    first_dead = dead 0 (omega arith)

    gone_state : (effected 0 given (removed (view_of 0 given))).left ≡ s
    gone_state =
        removal_leaves i 0 (omega arith) first_dead given_put.0.sound
        (λ f l.
        at_or_not (λ k. k < F → owner_gone 0 (own given k) ≡ own s k) n f
        (λ m. rw given_put.0.frame (sym e))
        (λ m q. rw (given_other f m) (owners_stay i 0 (omega arith) first_dead f q))
        l)
        look_other
        (guest_back s.monitor 0 (new_guest false) zero_guest (omega arith) first_dead)

    clearing_undone : Reached F W unclaimed → Reached F W s
    clearing_undone reached =
        let j = unclaimed_put.sound in
        let a = reached_next reached (Create false) tt (create_leaves j false 0 (first_free unclaimed dead) (omega arith) (ap (λ (x : Guest). x.live) (dead 0 (omega arith)))) in
        let b = reached_next {t = given} a (Donate 0 n 0) (omega arith, (omega (arith, at_most i.sized), (omega arith, tt))) (donate_leaves joined_sound 0 n 0 (ap (λ (x : Guest). x.live) first) h wide joined_host joined_vacant ∙ rw (width_is joined_sound.sized)) in
        reached_next b (Remove 0) (omega arith, tt) (remove_leaves given_put.0.sound 0 (ap (λ (x : Guest). x.live) first) ∙ gone_state)

  module _ (bounds : lengths_hold F (8 * W) ≡ true) where
    wide : 0 < W
    wide = omega (arith, width_between (8 * W) (both_true (frames_hold F) (map_holds (8 * W)) bounds).1)

    -- no frame waits: the tables are fresh
    fresh_reached : (s : State) → WordsSound F W s → AllDead s → ((f : ℕ) → f < F → is_waiting (own s f) ≡ false) → Reached F W s
    fresh_reached s i dead none = record {
      calls = [];
      fit = tt;
      leaves =
          same_state (fresh_sound F W bounds) i
          (λ f l. fresh_own F W bounds f l ∙ sym (host_word (own s f) (dead_free s i dead f l) (none f l)))
          (λ v g l m. fresh_look F W bounds v g l m ∙ sym (row_vacant_lem i v l (dead v l) g m))
          (λ v l. guest_fresh v ∙ sym (dead v l));
    }

    undo : (s : State) → WordsSound F W s → AllDead s → (n : ℕ) → n < F → is_waiting (own s n) ≡ true → Undone F W AllDead is_waiting s n
    undo s i dead n h w =
        let e = waiting_word (own s n) w in
        undone_put (unclaimed_put n s i dead h wide e) dead refl (clearing_undone n s i dead h wide e)

    pub dead_reached : (s : State) → WordsSound F W s → AllDead s → Reached F W s
    dead_reached s i dead = frames_reached F W AllDead is_waiting fresh_reached undo s i dead
