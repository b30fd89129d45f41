-- The invariant by what is seen of the words, and one law for every change: of some frames and granules that name, before and after, none
-- but each other.
use mathlib.Core.Path.{◌≡◌, refl, sym, ◌∙◌}
use mathlib.Core.Logic.{◌≢◌}
use mathlib.Core.Bool.{Bool, true, false}
use Prim.Native.Nat.{ℕ, ◌<◌}
use Rattle.words.specs.declared.map_word.MapWord.{MapWord}
use Rattle.words.specs.declared.map_word.MapWord.TheVariants as map-word
use Rattle.words.specs.declared.frame_word.FrameWord.TheVariants as frame-word
use Rattle.words.proofs.Booleans.{never}
use Rattle.pairs.specs.declared.pairs.GranuleState.{GranuleState}
use Rattle.pairs.specs.declared.pairs.GranuleState.TheVariants as granule-state
use Rattle.records.specs.Monitor.{guest_of}
use Rattle.commands.specs.State.{State}
use Rattle.history.specs.Sound.{SoundRecord, may_hold}
use Rattle.history.proofs.StateWords.{own, look, Sized}

-- the state of a granule whose word is named back
abbrev pub state_by : MapWord → GranuleState
state_by map-word.Vacant = granule-state.Vacant
state_by (map-word.Frame b f) = granule-state.Frame b f
state_by map-word.Guarded = granule-state.Guarded
state_by map-word.Damaged = granule-state.Damaged

-- granule g of slot v is there, and says frame f
abbrev pub Says : ℕ → State → ℕ → Bool → ℕ → ℕ → Type 0
Says W s v b g f = (v < 8) × (g < W) × (look W s v g ≡ map-word.Frame b f)

-- frame f is there, and says granule g of slot v
abbrev pub SaysBack : ℕ → State → ℕ → Bool → ℕ → ℕ → Type 0
SaysBack F s v b g f = (f < F) × (own s f ≡ frame-word.Owned v b g)

pub record WordsSound (F W : ℕ) (s : State) : Type 0 where
  pub sized : Sized F W s
  pub records : (v : ℕ) → v < 8 → SoundRecord (guest_of s.monitor v)
  pub whole : (f : ℕ) → f < F → own s f ≢ frame-word.Damaged
  pub says : (v : ℕ) (b : Bool) (g f : ℕ) → f < F → own s f ≡ frame-word.Owned v b g → Says W s v b g f
  pub says_back : (v : ℕ) (b : Bool) (g f : ℕ) → v < 8 → g < W → look W s v g ≡ map-word.Frame b f → SaysBack F s v b g f
  pub holds : (v g : ℕ) → v < 8 → g < W → may_hold (guest_of s.monitor v) (state_by (look W s v g)) ≡ true

-- A change from s to t, at the frames where `frames` is true and the granules where `granules` is.
pub record Changed (F W : ℕ) (s t : State) (frames : ℕ → Bool) (granules : ℕ → ℕ → Bool) : Type 0 where
  pub sized : Sized F W t
  pub records : (v : ℕ) → v < 8 → SoundRecord (guest_of t.monitor v)
  -- elsewhere nothing changed, and what a granule holds there is still its guest's to hold
  pub frames_kept : (f : ℕ) → f < F → frames f ≡ false → own t f ≡ own s f
  pub granules_kept : (v g : ℕ) → v < 8 → g < W → granules v g ≡ false → look W t v g ≡ look W s v g
  pub holds_kept : (v g : ℕ) → v < 8 → g < W → granules v g ≡ false
      → may_hold (guest_of s.monitor v) (state_by (look W s v g)) ≡ true → may_hold (guest_of t.monitor v) (state_by (look W s v g)) ≡ true
  -- before, they named none but each other
  pub frames_within : (v : ℕ) (b : Bool) (g f : ℕ) → f < F → frames f ≡ true → own s f ≡ frame-word.Owned v b g → granules v g ≡ true
  pub granules_within : (v : ℕ) (b : Bool) (g f : ℕ) → v < 8 → g < W → granules v g ≡ true → look W s v g ≡ map-word.Frame b f → frames f ≡ true
  -- and after it each that names another is named back
  pub frames_sound : (f : ℕ) → f < F → frames f ≡ true → own t f ≢ frame-word.Damaged
  pub frames_named_lem : (v : ℕ) (b : Bool) (g f : ℕ) → f < F → frames f ≡ true → own t f ≡ frame-word.Owned v b g → Says W t v b g f
  pub granules_named : (v : ℕ) (b : Bool) (g f : ℕ) → v < 8 → g < W → granules v g ≡ true → look W t v g ≡ map-word.Frame b f → SaysBack F t v b g f
  pub granules_held : (v g : ℕ) → v < 8 → g < W → granules v g ≡ true → may_hold (guest_of t.monitor v) (state_by (look W t v g)) ≡ true

module _ {F W : ℕ} {s t : State} (i : WordsSound F W s) (frames : ℕ → Bool) (granules : ℕ → ℕ → Bool) (c : Changed F W s t frames granules) where
  whole_then : (f : ℕ) → f < F → (x : Bool) → frames f ≡ x → own t f ≢ frame-word.Damaged
  whole_then f h true e = c.frames_sound f h e
  whole_then f h false e = λ d. i.whole f h (sym (c.frames_kept f h e) ∙ d)

  -- a granule that names a frame which did not change did not change either
  outside : (v : ℕ) (b : Bool) (g f : ℕ) → frames f ≡ false → Says W s v b g f → (x : Bool) → granules v g ≡ x → Says W t v b g f
  outside v b g f e p true q = never (sym e ∙ c.granules_within v b g f p.0 p.1 q p.2)
  outside v b g f e p false q = (p.0, p.1, c.granules_kept v g p.0 p.1 q ∙ p.2)

  says_then : (v : ℕ) (b : Bool) (g f : ℕ) → f < F → own t f ≡ frame-word.Owned v b g → (x : Bool) → frames f ≡ x → Says W t v b g f
  says_then v b g f h o true e = c.frames_named_lem v b g f h e o
  says_then v b g f h o false e = outside v b g f e (i.says v b g f h (sym (c.frames_kept f h e) ∙ o)) (granules v g) refl

  -- and the same of a frame that such a granule names
  outside_back : (v : ℕ) (b : Bool) (g f : ℕ) → granules v g ≡ false → SaysBack F s v b g f → (x : Bool) → frames f ≡ x → SaysBack F t v b g f
  outside_back v b g f e p true q = never (sym e ∙ c.frames_within v b g f p.0 q p.1)
  outside_back v b g f e p false q = (p.0, c.frames_kept f p.0 q ∙ p.1)

  says_back_then : (v : ℕ) (b : Bool) (g f : ℕ) → v < 8 → g < W → look W t v g ≡ map-word.Frame b f → (x : Bool) → granules v g ≡ x → SaysBack F t v b g f
  says_back_then v b g f h l o true e = c.granules_named v b g f h l e o
  says_back_then v b g f h l o false e = outside_back v b g f e (i.says_back v b g f h l (sym (c.granules_kept v g h l e) ∙ o)) (frames f) refl

  holds_then : (v g : ℕ) → v < 8 → g < W → (x : Bool) → granules v g ≡ x → may_hold (guest_of t.monitor v) (state_by (look W t v g)) ≡ true
  holds_then v g h l true e = c.granules_held v g h l e
  holds_then v g h l false e = rw (c.granules_kept v g h l e) (c.holds_kept v g h l e (i.holds v g h l))

  pub changed_sound : WordsSound F W t
  changed_sound = record {
    sized = c.sized;
    records = c.records;
    whole = λ f h. whole_then f h (frames f) refl;
    says = λ v b g f h o. says_then v b g f h o (frames f) refl;
    says_back = λ v b g f h l o. says_back_then v b g f h l o (granules v g) refl;
    holds = λ v g h l. holds_then v g h l (granules v g) refl;
  }
