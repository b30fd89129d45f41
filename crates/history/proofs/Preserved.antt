-- What every call keeps: the invariant, the agreement of frame words with the log, and that no answer speaks of damage or bad lengths.
use mathlib.Core.Path.{◌≡◌, refl, sym, ◌∙◌}
use mathlib.Core.Bool.{Bool, true, false, cond, ◌&&◌, not}
use mathlib.Core.List.{[], ◌∷◌, ◌++◌}
use mathlib.Core.Option.{some}
use Prim.Native.Nat.{ℕ, ◌<◌}
use lib.Dec.{eqb}
use Rattle.words.proofs.Booleans.{both_true, never}
use Rattle.answers.specs.Answer.{numbers_of}
use Rattle.commands.specs.State.{State, Answered}
use Rattle.commands.specs.Tests.{Tests, first_refusal}
use Rattle.commands.specs.Command.{View, slot_number, Effect, answer_only, tests_of, effect_of, unless_refused, view_of, effected}
use Rattle.answers.specs.declared.answer.Answer.{Answer}
use Rattle.answers.specs.declared.answer.Numbers.{Numbers}
use Rattle.commands.proofs.TestLaws.{Passes}
use Rattle.calls.specs.Step.{command_of, FrameEvent, donation, removal, clearing, guest_call, other_event, frame_event, step}
use Rattle.calls.specs.declared.call.Call.{Call}
use Rattle.history.specs.Log.{FrameChange, host_done, guest_done, after_event, after_call}
use Rattle.history.specs.History.{is_usual}
use Rattle.history.proofs.StateWords.{own}
use Rattle.history.proofs.WordsSound.{WordsSound}
use Rattle.history.proofs.FramesAtGranules.{owner_after}

-- an answer of a call that is not done
abbrev pub undone : Numbers → Bool
undone n = not (host_done n) && not (guest_done n)

pub record Preserved (F W : ℕ) (s : State) (c : Call) (r : Answered) : Type 0 where
  pub sound : WordsSound F W r.left
  pub logged : (f : ℕ) → f < F → (x : FrameChange) → own s f ≡ owner_after x → own r.left f ≡ owner_after (after_call f c (numbers_of r.answer) x)
  pub usual_verdict : is_usual (numbers_of r.answer) ≡ true

not_true : (b : Bool) → not b ≡ true → b ≡ false
not_true true e = sym e
not_true false e = refl

unless : (b : Bool) (y x : FrameChange) → b ≡ false → cond b y x ≡ x
unless true y x e = never (sym e)
unless false y x e = refl

-- a call that is not done changes no frame by the log
pub undone_log : (f : ℕ) (c : Call) (n : Numbers) (x : FrameChange) → undone n ≡ true → after_call f c n x ≡ x
undone_log f c n x e = on (frame_event c)
  where
    p : (not (host_done n) ≡ true) × (not (guest_done n) ≡ true)
    p = both_true (not (host_done n)) (not (guest_done n)) e

    host : host_done n ≡ false
    host = not_true (host_done n) p.0

    on : (v : FrameEvent) → after_event f v n x ≡ x
    on (donation v d g) = unless (host_done n && eqb f d) _ x (rw host)
    on (removal v) = unless (host_done n) _ x host
    on (clearing d) = unless (host_done n && eqb f d) _ x (rw host)
    on (guest_call v r) = unless (guest_done n) _ x (not_true (guest_done n) p.1)
    on other_event = refl

-- what a refusal has to be
abbrev pub Fine : Answer → Type 0
Fine a = (undone (numbers_of a) ≡ true) × (is_usual (numbers_of a) ≡ true)

-- each test that fails gives such a refusal, where those before it passed
abbrev pub Refusals : Tests Answer → Type 0
Refusals [] = Unit {0}
Refusals (t ∷ ts) = (t.0 ≡ false → Fine t.1) × (t.0 ≡ true → Refusals ts)

-- one test, with what its refusal is, and those after it
pub test : {A B : Type 0} → A → B → A × B
test a b = (a, b)

-- a test that soundness passes
pub sure : {A : Type 0} (b : Bool) → b ≡ true → b ≡ false → A
sure b t f = never (sym f ∙ t)

module _ {F W : ℕ} {s : State} (i : WordsSound F W s) (c : Call) (v : ℕ) where
  pub refused_kept : (a : Answer) → Fine a → Preserved F W s c (effected v s (answer_only a))
  refused_kept a h = record {
    sound = i;
    logged = λ f l x e. rw (undone_log f c (numbers_of a) x h.0) e;
    usual_verdict = h.1;
  }

  tests_kept : (ts : Tests Answer) (d : Effect) → Refusals ts → (Passes ts → Preserved F W s c (effected v s d))
      → Preserved F W s c (effected v s (unless_refused (first_refusal ts) d))
  tests_kept [] d r k = k tt
  tests_kept (t ∷ ts) d r k = on t.0 refl (λ q h. tests_kept ts d q h)
    where
      on : (b : Bool) → t.0 ≡ b → (Refusals ts → (Passes ts → Preserved F W s c (effected v s d)) → Preserved F W s c (effected v s (unless_refused (first_refusal ts) d)))
          → Preserved F W s c (effected v s (unless_refused (cond b (first_refusal ts) (some t.1)) d))
      on true e more = more (r.1 e) (λ p. k (e, p))
      on false e more = refused_kept t.1 (r.0 e)

-- tests after others
pub refusals_then : (ts us : Tests Answer) → Refusals ts → (Passes ts → Refusals us) → Refusals (ts ++ us)
refusals_then [] us r k = k tt
refusals_then (t ∷ ts) us r k = (r.0, λ e. refusals_then ts us (r.1 e) (λ p. k (e, p)))

pub passes_both : (ts us : Tests Answer) → Passes (ts ++ us) → Passes ts × Passes us
passes_both [] us p = (tt, p)
passes_both (t ∷ ts) us p = let q = passes_both ts us p.1 in ((p.0, q.0), q.1)

-- a call's slot in a state, and what it sees there
abbrev pub slot_in : State → Call → ℕ
slot_in s c = slot_number (command_of c).slot s.monitor

abbrev pub seen_in : State → Call → View
seen_in s c = view_of (slot_in s c) s

-- a call by its tests and its effect
pub call_kept : {F W : ℕ} {s : State} → WordsSound F W s → (c : Call) → Refusals (tests_of (command_of c) (seen_in s c))
    → (Passes (tests_of (command_of c) (seen_in s c)) → Preserved F W s c (effected (slot_in s c) s (effect_of (command_of c) (seen_in s c)))) → Preserved F W s c (step c s)
unfolding step
call_kept {s = s} i c r k = tests_kept i c (slot_in s c) (tests_of (command_of c) (seen_in s c)) (effect_of (command_of c) (seen_in s c)) r k
