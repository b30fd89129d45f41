-- What a passed test says of the words, in states that keep the invariant; and tests that all such states pass.
use mathlib.Core.Path.{◌≡◌, refl}
use mathlib.Core.Bool.{true}
use Prim.Native.Nat.{ℕ, ◌<◌}
use native.Mathlib.Omega.{arith}
use borrow.Author.Tests.{ltb-true}
use lib.Dec.{ltb}
use lib.ListN.{length}
use Rattle.words.specs.declared.map_word.MapWord.{MapWord}
use Rattle.words.specs.declared.map_word.MapWord.TheVariants as map-word
use Rattle.words.specs.declared.frame_word.FrameWord.{FrameWord}
use Rattle.words.specs.declared.frame_word.FrameWord.TheVariants as frame-word
use Rattle.tables.specs.Length.{width_of}
use Rattle.pairs.specs.Pair.{pair_at, granule_undamaged, granule_vacant, frame_hosts, frame_waiting}
use Rattle.pairs.specs.declared.pairs.GranuleState.{GranuleState}
use Rattle.pairs.specs.declared.pairs.GranuleState.TheVariants as granule-state
use Rattle.records.specs.Monitor.{guest_of}
use Rattle.commands.specs.State.{State}
use Rattle.records.specs.declared.guest.Guest.{Guest}
use Rattle.history.specs.Sound.{may_hold}
use Rattle.history.proofs.StateWords.{width_is}
use Rattle.history.proofs.WordsSound.{state_by, WordsSound}
use Rattle.history.proofs.SoundLaws.{granule_sound, frame_by}

-- by the pair tests: what a granule may hold is undamaged, a host's frame has the host's word, and the like
held_undamaged : (g : Guest) (k : GranuleState) → may_hold g k ≡ true → granule_undamaged k ≡ true
held_undamaged g granule-state.Vacant h = refl
held_undamaged g (granule-state.Frame b f) h = refl
held_undamaged g granule-state.Guarded h = refl
held_undamaged g granule-state.Damaged h = h

pub hosts_word : (d : FrameWord) → frame_hosts (frame_by d) ≡ true → d ≡ frame-word.Host
hosts_word frame-word.Host h = refl
hosts_word frame-word.Waiting h = cc
hosts_word (frame-word.Owned v b g) h = cc
hosts_word frame-word.Damaged h = cc

pub waiting_word : (d : FrameWord) → frame_waiting (frame_by d) ≡ true → d ≡ frame-word.Waiting
waiting_word frame-word.Host h = cc
waiting_word frame-word.Waiting h = refl
waiting_word (frame-word.Owned v b g) h = cc
waiting_word frame-word.Damaged h = cc

pub vacant_word : (d : MapWord) → granule_vacant (state_by d) ≡ true → d ≡ map-word.Vacant
vacant_word map-word.Vacant h = refl
vacant_word (map-word.Frame b f) h = cc
vacant_word map-word.Guarded h = cc
vacant_word map-word.Damaged h = cc

module _ {F W : ℕ} {s : State} (i : WordsSound F W s) where
  -- the tests that soundness passes
  pub granule_undamaged_lem : (v g : ℕ) → v < 8 → g < W → granule_undamaged (pair_at s.frames s.map v g) ≡ true
  granule_undamaged_lem v g h l = held_undamaged (guest_of s.monitor v) (pair_at s.frames s.map v g) (granule_sound i v g h l)

  pub below_frames : (f : ℕ) → ltb f (length s.frames) ≡ true → f < F
  below_frames f h = omega (arith, ltb-true f (length s.frames) h, i.sized.frame_words)

  pub below_width : (g : ℕ) → ltb g (width_of (length s.map)) ≡ true → g < W
  below_width g h = omega (arith, ltb-true g (width_of (length s.map)) h, width_is i.sized)
