-- The word of a frame and the word of a granule: they name each other, or neither names another.
use mathlib.Core.Path.{◌≡◌, sym, ◌∙◌}
use mathlib.Core.Logic.{◌≢◌}
use mathlib.Core.Bool.{Bool, true, false, ◌&&◌}
use Prim.Native.Nat.{ℕ}
use borrow.Author.Tests.{eq-eqb, eqb-true}
use lib.Dec.{eqb}
use Rattle.words.specs.declared.map_word.MapWord.{MapWord}
use Rattle.words.specs.declared.map_word.MapWord.TheVariants as map-word
use Rattle.words.specs.declared.frame_word.FrameWord.{FrameWord}
use Rattle.words.specs.declared.frame_word.FrameWord.TheVariants as frame-word
use Rattle.words.proofs.Booleans.{both_true, never}
use Rattle.words.proofs.MapWordLaws.{MapFits}
use Rattle.words.proofs.FrameWordLaws.{FrameFits}

-- granule h of slot u is granule g of slot v
abbrev pub here : ℕ → ℕ → ℕ → ℕ → Bool
here v g u h = eqb u v && eqb h g

pub is_here : (v g u h : ℕ) → here v g u h ≡ true → (u ≡ v) × (h ≡ g)
is_here v g u h e = let p = both_true (eqb u v) (eqb h g) e in (eqb-true u v p.0, eqb-true h g p.1)

pub not_here : (v g u h : ℕ) → here v g u h ≡ false → (u ≡ v) × (h ≡ g) → ⊥
not_here v g u h e p =
    let t : here v g u h ≡ true = rw (eq-eqb u v p.0, eq-eqb h g p.1) in
    never (sym e ∙ t)

pub surely_here : (v g u h : ℕ) → u ≡ v → h ≡ g → here v g u h ≡ true
surely_here v g u h p q = rw (eq-eqb u v p, eq-eqb h g q)

-- the word of frame f and the word of granule g of slot v name each other, or none
pub record NameOnlyEachOther (v g f : ℕ) (d : FrameWord) (e : MapWord) : Type 0 where
  pub whole : d ≢ frame-word.Damaged
  pub to : (u : ℕ) (b : Bool) (h : ℕ) → d ≡ frame-word.Owned u b h → (u ≡ v) × (h ≡ g) × (e ≡ map-word.Frame b f)
  pub from : (b : Bool) (k : ℕ) → e ≡ map-word.Frame b k → (k ≡ f) × (d ≡ frame-word.Owned v b g)

pub pair_named : (v g f : ℕ) (b : Bool) → NameOnlyEachOther v g f (frame-word.Owned v b g) (map-word.Frame b f)
pair_named v g f b = record { whole = λ e. never cc; to = λ u c h e. (cc, cc, cc); from = λ c k e. (cc, cc) }

-- neither names another
abbrev pub FrameFree : FrameWord → Type 0
FrameFree frame-word.Host = Unit {0}
FrameFree frame-word.Waiting = Unit {0}
FrameFree (frame-word.Owned v b g) = ⊥
FrameFree frame-word.Damaged = ⊥

abbrev pub NamesNone : MapWord → Type 0
NamesNone map-word.Vacant = Unit {0}
NamesNone (map-word.Frame b f) = ⊥
NamesNone map-word.Guarded = Unit {0}
NamesNone map-word.Damaged = Unit {0}

pub free_sound : (d : FrameWord) → FrameFree d → d ≢ frame-word.Damaged
free_sound d h e = rw e at h

pub free_owned : (d : FrameWord) → FrameFree d → (v : ℕ) (b : Bool) (g : ℕ) → d ≡ frame-word.Owned v b g → ⊥
free_owned d h v b g e = rw e at h

pub none_named : (e : MapWord) → NamesNone e → (b : Bool) (f : ℕ) → e ≡ map-word.Frame b f → ⊥
none_named e h b f q = rw q at h

pub pair_apart : (v g f : ℕ) (d : FrameWord) (e : MapWord) → FrameFree d → NamesNone e → NameOnlyEachOther v g f d e
pair_apart v g f d e h n = record {
  whole = free_sound d h;
  to = λ u b k q. absurd (free_owned d h u b k q);
  from = λ b k q. absurd (none_named e n b k q);
}

pub free_fits : (d : FrameWord) → FrameFree d → FrameFits d
free_fits frame-word.Host h = tt
free_fits frame-word.Waiting h = tt
free_fits (frame-word.Owned v b g) h = absurd h
free_fits frame-word.Damaged h = tt

pub none_fits : (e : MapWord) → NamesNone e → MapFits e
none_fits map-word.Vacant h = tt
none_fits (map-word.Frame b f) h = absurd h
none_fits map-word.Guarded h = tt
none_fits map-word.Damaged h = tt
