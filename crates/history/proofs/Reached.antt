-- States that some calls leave from fresh tables, and one call more.
use mathlib.Core.Path.{◌≡◌, refl, ap, ◌∙◌}
use mathlib.Core.Logic.{◌≢◌}
use mathlib.Core.Bool.{Bool, true, false}
use mathlib.Core.List.{List, [], ◌∷◌, ◌++◌}
use Prim.Native.Nat.{ℕ, zero, suc, ◌<◌, ◌≤◌}
use native.Mathlib.Decide.{dec_lt}
use native.Mathlib.Omega.{arith}
use Rattle.runs.specs.Made.{Every}
use Rattle.words.specs.declared.frame_word.FrameWord.{FrameWord}
use Rattle.commands.specs.State.{State}
use Rattle.calls.specs.Step.{step, state_after, fresh_state}
use Rattle.calls.specs.declared.call.Call.{Call}
use Rattle.history.specs.Reachable.{Fits}
use Rattle.history.proofs.StateWords.{own, at_or_not}
use Rattle.history.proofs.WordsSound.{WordsSound}
use Rattle.history.proofs.WordMoves.{FramePut}

pub record Reached (F W : ℕ) (s : State) : Type 0 where
  pub calls : List Call
  pub fit : Every Fits calls
  pub leaves : state_after calls (fresh_state F W) ≡ s

more : (cs : List Call) (c : Call) (s : State) → state_after (cs ++ (c ∷ [])) s ≡ (step c (state_after cs s)).left
more [] c s = refl
more (d ∷ cs) c s = more cs c (step d s).left

every_more : (P : Call → Type 0) (cs : List Call) (c : Call) → Every P cs → P c → Every P (cs ++ (c ∷ []))
every_more P [] c h p = (p, tt)
every_more P (d ∷ cs) c h p = (h.0, every_more P cs c h.1 p)

pub reached_next : {F W : ℕ} {s t : State} → Reached F W s → (c : Call) → Fits c → (step c s).left ≡ t → Reached F W t
reached_next {F} {W} g c fits e = record {
  calls = g.calls ++ (c ∷ []);
  fit = every_more Fits g.calls c g.fit fits;
  leaves = more g.calls c (fresh_state F W) ∙ ap (λ (s : State). (step c s).left) g.leaves ∙ e;
}

-- States of a class C, of which each frame with a certain word can be undone: a state of C before it has that frame otherwise.
pub record Undone (F W : ℕ) (C : State → Type 0) (word : FrameWord → Bool) (s : State) (n : ℕ) : Type 0 where
  pub before : State
  pub sound : WordsSound F W before
  pub class : C before
  pub frame : word (own before n) ≡ false
  pub frames : (f : ℕ) → f ≢ n → own before f ≡ own s f
  pub undone : Reached F W before → Reached F W s

-- one frame put otherwise, where calls put it back
pub undone_put : {F W : ℕ} {C : State → Type 0} {word : FrameWord → Bool} {s t : State} {n : ℕ} {d : FrameWord}
    → FramePut F W s t n d → C t → word d ≡ false → (Reached F W t → Reached F W s) → Undone F W C word s n
undone_put {word = word} {t = t} put c w undone =
    record { before = t; sound = put.sound; class = c; frame = ap word put.frame ∙ w; frames = put.frames; undone = undone }

module _ (F W : ℕ) (C : State → Type 0) (word : FrameWord → Bool)
    (base : (s : State) → WordsSound F W s → C s → ((f : ℕ) → f < F → word (own s f) ≡ false) → Reached F W s)
    (undo : (s : State) → WordsSound F W s → C s → (n : ℕ) → n < F → word (own s n) ≡ true → Undone F W C word s n) where
  -- no frame from the n-th on has such a word
  abbrev NoneFrom : ℕ → State → Type 0
  NoneFrom n s = (f : ℕ) → f < F → n ≤ f → word (own s f) ≡ false

  none_from_reached : (n : ℕ) (s : State) → WordsSound F W s → C s → NoneFrom n s → Reached F W s
  none_from_reached zero s i c none = base s i c (λ f h. none f h (omega arith))
  none_from_reached (suc n) s i c none = on (dec_lt n F) (λ t j d f. none_from_reached n t j d f)
    where
      Next : Type 0
      Next = (t : State) → WordsSound F W t → C t → NoneFrom n t → Reached F W t

      fewer : (t : State) → word (own t n) ≡ false → ((f : ℕ) → f < F → f ≢ n → suc n ≤ f → word (own t f) ≡ false) → NoneFrom n t
      fewer t here there f l m =
          at_or_not (λ x. x < F → n ≤ x → word (own t x) ≡ false) n f (λ a b. here) (λ q a b. there f a q (omega arith)) l m

      by : n < F → (b : Bool) → word (own s n) ≡ b → Next → Reached F W s
      by h true e next =
          let u = undo s i c n h e in
          u.undone (next u.before u.sound u.class (fewer u.before u.frame (λ f l q m. ap word (u.frames f q) ∙ none f l m)))
      by h false e next = next s i c (fewer s e (λ f l q m. none f l m))

      on : Dec (n < F) → Next → Reached F W s
      on (yes h) next = by h (word (own s n)) refl next
      on (no h) next = next s i c (λ f l m. none f l (omega arith))

  pub frames_reached : (s : State) → WordsSound F W s → C s → Reached F W s
  frames_reached s i c = none_from_reached F s i c (λ f l m. absurd (omega arith))
