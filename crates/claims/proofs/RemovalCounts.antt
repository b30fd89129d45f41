-- In an undamaged row each frame that a word names, names that word's granule back: no two words name one frame, so each frame that is
-- freed is one more frame word that differs.
use mathlib.Core.Path.{◌≡◌, refl, sym, ◌∙◌}
use mathlib.Core.Logic.{◌≢◌}
use mathlib.Core.Bool.{Bool, true, false, cond}
use mathlib.Core.List.{List, [], ◌∷◌}
use Prim.Native.Nat.{ℕ, suc, ◌+◌, ◌<◌, ◌≤◌}
use native.Mathlib.Nat.{zero-add}
use native.Mathlib.Omega.{arith}
use borrow.Author.Tests.{ltb-true}
use lib.Dec.{ltb}
use lib.ListN.{length, get_or, length-set}
use lib.Seq.{get_or-set_other}
use Rattle.words.specs.MapWord.{map_word_of}
use Rattle.words.specs.FrameWord.{frame_bits, frame_word_of, names_granule}
use Rattle.words.specs.declared.map_word.MapWord.{MapWord}
use Rattle.words.specs.declared.map_word.MapWord.TheVariants as map-word
use Rattle.words.specs.declared.frame_word.FrameWord.TheVariants as frame-word
use Rattle.words.proofs.Booleans.{never, both_true}
use Rattle.words.proofs.FrameWordLaws.{named_granule, frame_decode_encode}
use Rattle.tables.specs.Length.{lengths_hold}
use Rattle.tables.specs.Row.{row_of}
use Rattle.pairs.specs.Pair.{frame_names_back, granule_state, granule_undamaged}
use Rattle.pairs.specs.declared.pairs.GranuleState.TheVariants as granule-state
use Rattle.answers.specs.Answer.{numbers_of}
use Rattle.records.specs.Monitor.{guest_of, live_in}
use Rattle.commands.specs.State.{State}
use Rattle.commands.specs.Tests.{first_refusal}
use Rattle.commands.specs.Command.{Effect, unless_refused, view_of, effected}
use Rattle.answers.specs.declared.answer.Answer.TheVariants.{BadLength, NoGuest, Damaged}
use Rattle.rows.specs.WholeRow.{undamaged_from, row_undamaged, frame_freed, frames_freed, frame_named, frames_named}
use Rattle.host_removal.specs.Calls.{removed, remove_of}
use Rattle.claims.specs.Pieces.{differing}
use Rattle.claims.specs.HostCalls.{CountsFrames}
use Rattle.claims.proofs.Differing.{differing_none, differing_set}

named_back : (b s : Bool) (f : ℕ) → granule_undamaged (cond b (granule-state.Frame s f) granule-state.Damaged) ≡ true → b ≡ true
named_back true s f h = refl
named_back false s f h = h

-- a frame that an undamaged granule names is there, and that granule owns it
named_owned : (frames : List ℕ) (v g : ℕ) (s : Bool) (f : ℕ) → granule_undamaged (granule_state frames v g (map-word.Frame s f)) ≡ true
    → (f < length frames) × (frame_word_of (get_or frames f 0) ≡ frame-word.Owned v s g)
unfolding granule_state
named_owned frames v g s f h =
    let d = frame_word_of (get_or frames f 0) in
    let p = both_true (ltb f (length frames)) (names_granule v s g d) (named_back (frame_names_back frames v s g f) s f h) in
    (ltb-true f (length frames) p.0, named_granule v s g d p.1)

-- an owned word is not the word of a frame that waits
owned_changes : (w v g : ℕ) (s : Bool) → frame_word_of w ≡ frame-word.Owned v s g → w ≢ frame_bits frame-word.Waiting
owned_changes w v g s o e =
    let waits : frame_word_of w ≡ frame-word.Waiting = rw e (frame_decode_encode frame-word.Waiting tt) in
    never cc

-- a frame word names one granule
one_granule : (w v g h : ℕ) (s t : Bool) → frame_word_of w ≡ frame-word.Owned v s g → frame_word_of w ≡ frame-word.Owned v t h → g ≡ h
one_granule w v g h s t o p = cc

-- the frames at first, and a row of slot v
module _ (first : List ℕ) (v : ℕ) where
  -- before granule g: the frames that granules from g on own are as they were at first, and n frame words differ
  record Freed (g n : ℕ) (now : List ℕ) : Type 0 where
    lengths : length now ≡ length first
    ahead : (f h : ℕ) (s : Bool) → g ≤ h → frame_word_of (get_or first f 0) ≡ frame-word.Owned v s h → get_or now f 0 ≡ get_or first f 0
    count : differing first now ≡ n

  -- a word that names no frame changes nothing
  none_freed : (g n : ℕ) (now : List ℕ) → Freed g n now → Freed (suc g) (n + 0) now
  none_freed g n now i = record {
    lengths = i.lengths;
    ahead = λ f h s b o. i.ahead f h s (omega arith) o;
    count = omega (arith, i.count);
  }

  word_freed : (g n : ℕ) (now : List ℕ) (d : MapWord) → granule_undamaged (granule_state first v g d) ≡ true → Freed g n now
      → Freed (suc g) (n + frame_named d) (frame_freed d now)
  word_freed g n now map-word.Vacant u i = none_freed g n now i
  word_freed g n now map-word.Guarded u i = none_freed g n now i
  word_freed g n now map-word.Damaged u i = none_freed g n now i
  word_freed g n now (map-word.Frame s f) u i =
      let w = frame_bits frame-word.Waiting in
      let p = named_owned first v g s f u in
      let same = i.ahead f g s (omega arith) p.1 in
      let other : (k h : ℕ) (t : Bool) → suc g ≤ h → frame_word_of (get_or first k 0) ≡ frame-word.Owned v t h → k ≢ f =
      λ k h t b o e. omega (arith, one_granule (get_or first f 0) v g h s t p.1 (rw e at o)) in
      record {
        lengths = length-set now f w ∙ i.lengths;
        ahead = λ k h t b o. get_or-set_other now f k w 0 (other k h t b o) ∙ i.ahead k h t (omega arith) o;
        count =
            omega
            (arith, i.count, differing_set first now f w i.lengths (omega (arith, p.0, i.lengths)) same (owned_changes (get_or first f 0) v g s p.1));
      }

  row_freed : (ws : List ℕ) (g n : ℕ) (now : List ℕ) → undamaged_from first v g ws ≡ true → Freed g n now
      → differing first (frames_freed ws now) ≡ n + frames_named ws
  unfolding undamaged_from frames_freed frames_named
  row_freed [] g n now u i = omega (arith, i.count)
  row_freed (w ∷ ws) g n now u i =
      let d = map_word_of w in
      let p = both_true (granule_undamaged (granule_state first v g d)) (undamaged_from first v (suc g) ws) u in
      row_freed ws (suc g) (n + frame_named d) (frame_freed d now) p.1 (word_freed g n now d p.0 i) ∙ omega arith

  freed_counts : (ws : List ℕ) → row_undamaged first v ws ≡ true → frames_named ws ≡ differing first (frames_freed ws first)
  freed_counts ws u =
      sym
      (row_freed ws 0 0 first u (record { lengths = refl; ahead = λ f h s b o. refl; count = differing_none first })
      ∙ zero-add (frames_named ws))

-- of the three refusals none has verdict 0
unless_counted : (a b c : Bool) (v : ℕ) (s : State) (done : Effect) → (c ≡ true → CountsFrames s (effected v s done))
    → CountsFrames s (effected v s (unless_refused (first_refusal ((a, BadLength) ∷ (b, NoGuest) ∷ (c, Damaged) ∷ [])) done))
unfolding numbers_of
unless_counted true true true v s done k = k refl
unless_counted true true false v s done k = λ h. absurd (omega arith)
unless_counted true false c v s done k = λ h. absurd (omega arith)
unless_counted false b c v s done k = λ h. absurd (omega arith)

-- a removal that is done tells in v0 how many frame words it changed
pub removal_counts : (v : ℕ) (s : State) → CountsFrames s (remove_of v s)
unfolding remove_of numbers_of
removal_counts v s =
    let row = row_of s.map v in
    unless_counted (lengths_hold (length s.frames) (length s.map)) (live_in v (guest_of s.monitor v)) (row_undamaged s.frames v row) v s (removed (view_of v s))
    (λ u h. freed_counts s.frames v row u)
