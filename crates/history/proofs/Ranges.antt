-- A step that is taken, and a range of them, keep the invariant, and change the frames at these granules and no others.
use mathlib.Core.Path.{◌≡◌, refl, sym, ap, ◌∙◌}
use mathlib.Core.Bool.{Bool, true, false}
use mathlib.Core.List.{List}
use Prim.Native.Nat.{ℕ, suc, ◌+◌, ◌<◌}
use native.Mathlib.Omega.{arith}
use lib.ListN.{length, set}
use Rattle.runs.specs.Run.{took, run}
use Rattle.runs.proofs.Kept.{Holds, kept}
use Rattle.words.specs.MapWord.{map_bits, map_word_of}
use Rattle.words.specs.FrameWord.{frame_bits}
use Rattle.words.specs.declared.map_word.MapWord.{MapWord}
use Rattle.words.specs.declared.map_word.MapWord.TheVariants as map-word
use Rattle.words.specs.declared.frame_word.FrameWord.TheVariants as frame-word
use Rattle.words.proofs.Booleans.{never}
use Rattle.tables.specs.Length.{width_of}
use Rattle.tables.specs.Row.{word_index, word_at}
use Rattle.pairs.specs.Pair.{granule_state}
use Rattle.pairs.specs.declared.pairs.GranuleState.{GranuleState}
use Rattle.pairs.proofs.Found.{map_word_by, granule_says}
use Rattle.records.specs.Monitor.{guest_of}
use Rattle.commands.specs.State.{State, state}
use Rattle.records.specs.declared.guest.Guest.{Guest}
use Rattle.records.specs.declared.monitor.Monitor.{Monitor}
use Rattle.granules.specs.Kind.{word_with, frame_then, write_bare, write_framed, change_of}
use Rattle.granules.specs.Comparison.{has_frame}
use Rattle.granules.specs.Step.{Place, place, table_step}
use Rattle.granules.specs.declared.kinds.Kind.{Kind}
use Rattle.granules.specs.declared.kinds.Kind.TheVariants.{Vacant, Private, Shared, Guarded}
use Rattle.granules.specs.declared.kinds.Operation.{Operation}
use Rattle.granules.proofs.ChangeLaws.{with_frame, writable}
use Rattle.history.specs.Log.{among}
use Rattle.history.specs.Sound.{may_hold}
use Rattle.history.proofs.StateWords.{own, look, width_is, at_or_not}
use Rattle.history.proofs.WordsSound.{state_by, WordsSound}
use Rattle.history.proofs.NamingPairs.{NameOnlyEachOther, pair_named, pair_apart, NamesNone}
use Rattle.history.proofs.WordMoves.{pair_put, granule_put}
use Rattle.history.proofs.FramesAtGranules.{owner_where, owner_where_none, owner_where_next, owner_where_here, owner_where_elsewhere}
use Rattle.history.proofs.StepWrites.{step_wrote, without_frame, framed}

-- what a guest may make of its granules
abbrev pub may_make : Guest → Kind → Bool
may_make g k = may_hold g (state_by (word_with k 0))

may_word : (guest : Guest) (k : Kind) (f : ℕ) → may_make guest k ≡ true → may_hold guest (state_by (word_with k f)) ≡ true
may_word guest Vacant f h = h
may_word guest Private f h = h
may_word guest Shared f h = h
may_word guest Guarded f h = h

-- the words of a frame and its granule that becomes of a kind
pair_then : (k : Kind) (v g f : ℕ) → NameOnlyEachOther v g f (frame_then k v g) (word_with k f)
pair_then Vacant v g f = pair_apart v g f frame-word.Waiting map-word.Vacant tt tt
pair_then Private v g f = pair_named v g f false
pair_then Shared v g f = pair_named v g f true
pair_then Guarded v g f = pair_apart v g f frame-word.Waiting map-word.Guarded tt tt

-- a granule names one frame
one_frame : (d : MapWord) (a b : Bool) (f k : ℕ) → d ≡ map-word.Frame a f → d ≡ map-word.Frame b k → k ≡ f
one_frame d a b f k p q = cc

module _ (F W : ℕ) (m : Monitor) (o : Operation) (v : ℕ) where
  -- from s, at granule g, to a place n granules on
  pub record RangeDone (s : State) (g n : ℕ) (map frames : List ℕ) (next : ℕ) : Type 0 where
    pub at : next ≡ g + n
    pub sound : WordsSound F W (state frames map m)
    pub owners : (f : ℕ) → f < F → own (state frames map m) f ≡ owner_where (among v g n) (frame_then o.makes) (own s f)
    pub same : has_frame o.needs ≡ false → (f : ℕ) → f < F → own (state frames map m) f ≡ own s f

  abbrev pub RangeDoneAt : State → ℕ → ℕ → Place → Type 0
  RangeDoneAt s g n (place map frames next) = RangeDone s g n map frames next

module _ (F W : ℕ) (m : Monitor) (o : Operation) (v : ℕ) (hv : v < 8) (may : may_make (guest_of m v) o.makes ≡ true) where
  module _ (map frames : List ℕ) (g : ℕ) (i : WordsSound F W (state frames map m)) (hg : g < width_of (length map)) where
    abbrev s : State
    s = state frames map m

    abbrev found : GranuleState
    found = granule_state frames v g (map_word_of (word_at map v g))

    below : g < W
    below = omega (arith, width_is i.sized)

    seen : map_word_of (word_at map v g) ≡ look W s v g
    unfolding look
    seen = rw (width_is i.sized)

    bare_done : (w : ℕ) → write_bare w ≡ change_of o found → RangeDoneAt F W m o v s g 1 (place (set map (word_index (length map) v g) w) frames (suc g))
    unfolding own
    bare_done w e =
        let k = without_frame o found w e in
        let says : look W s v g ≡ map_word_by found = sym seen ∙ granule_says frames v g (map_word_of (word_at map v g)) found refl k.undamaged in
        let none : NamesNone (look W s v g) = rw says k.before in
        record {
          at = omega arith;
          sound = rw (k.word, width_is i.sized) (granule_put i v g hv below none (word_with o.makes 0) k.after (may_word (guest_of m v) o.makes 0 may)).sound;
          owners = λ f h. sym (owner_where_elsewhere (frame_then o.makes) v g (own s f) (λ b q. rw (i.says v b g f h q).2 at none));
          same = λ q f h. refl;
        }

    frame_done : (f : ℕ) → write_framed f ≡ change_of o found
        → RangeDoneAt F W m o v s g 1 (place (set map (word_index (length map) v g) (map_bits (word_with o.makes f))) (set frames f (frame_bits (frame_then o.makes v g))) (suc g))
    unfolding own
    frame_done f e =
        let k = writable o frames v g (word_at map v g) found refl f e in
        let is-frame = with_frame o found f e in
        let says : look W s v g ≡ map-word.Frame k.0 f = sym seen ∙ k.1.word in
        let inside : f < F = omega (arith, k.1.inside, i.sized.frame_words) in
        let old : NameOnlyEachOther v g f (own s f) (look W s v g) = rw (k.1.owner, says) (pair_named v g f k.0) in
        let made = frame_then o.makes in
        let d = made v g in
        let w = word_with o.makes f in
        let put = (pair_put i v g f hv below inside old d w (pair_then o.makes v g f) (may_word (guest_of m v) o.makes f may)).0 in
        let t = state (set frames f (frame_bits d)) (set map (word_index (length map) v g) (map_bits w)) m in
        record {
          at = omega arith;
          sound = rw (width_is i.sized) put.sound;
          owners = λ j h.
              at_or_not (λ x. x < F → own t x ≡ owner_where (among v g 1) made (own s x)) f j
              (λ l. put.frame ∙ sym (ap (owner_where (among v g 1) made) k.1.owner ∙ owner_where_here made v k.0 g))
              (λ n l.
              put.frames j n
              ∙ sym (owner_where_elsewhere made v g (own s j) (λ b q. n (one_frame (look W s v g) k.0 b f j says (i.says v b g j l q).2))))
              h;
          same = λ q. never (sym q ∙ framed o is-frame.0 f (rw (← is-frame.1) e));
        }

  one_done : (map frames : List ℕ) (g : ℕ) → WordsSound F W (state frames map m) → (t : Place) → table_step o v (place map frames g) ≡ took t
      → RangeDoneAt F W m o v (state frames map m) g 1 t
  one_done map frames g i t e =
      step_wrote o v map frames g (RangeDoneAt F W m o v (state frames map m) g 1) (λ w h q. bare_done map frames g i h w q)
      (λ f h q. frame_done map frames g i h f q) t e

  module _ (s : State) (g : ℕ) where
    further : (n : ℕ) (map frames : List ℕ) (next : ℕ) → RangeDone F W m o v s g n map frames next → (t : Place)
        → RangeDoneAt F W m o v (state frames map m) next 1 t → RangeDoneAt F W m o v s g (suc n) t
    further n map frames next r (place map' frames' next') q = record {
      at = omega (arith, r.at, q.at);
      sound = q.sound;
      owners = λ f h.
          q.owners f h
          ∙ rw (r.owners f h, r.at) (owner_where_next o.makes v g n (own s f));
      same = λ e f h. q.same e f h ∙ r.same e f h;
    }

    onward : (n : ℕ) (p t : Place) → RangeDoneAt F W m o v s g n p → table_step o v p ≡ took t → RangeDoneAt F W m o v s g (suc n) t
    onward n (place map frames next) t r e = further n map frames next r t (one_done map frames next r.sound t e)

  -- n steps at the most
  pub range_done : (map frames : List ℕ) (g n : ℕ) → WordsSound F W (state frames map m)
      → Holds (RangeDoneAt F W m o v (state frames map m) g) 0 (run (table_step o v) n (place map frames g))
  range_done map frames g n i =
      let s = state frames map m in
      kept (RangeDoneAt F W m o v s g) (table_step o v) (onward s g) n 0 (place map frames g)
      (record { at = omega arith; sound = i; owners = λ f h. sym (owner_where_none v g (frame_then o.makes) (own s f)); same = λ e f h. refl })
