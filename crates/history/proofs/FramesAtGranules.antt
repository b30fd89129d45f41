-- The frames at some granules change, and no others: what that makes of a frame's word, and of the last change to it.
use mathlib.Core.Path.{◌≡◌, refl}
use mathlib.Core.Logic.{◌≢◌}
use mathlib.Core.Bool.{Bool, true, false, cond, ◌&&◌}
use Prim.Native.Nat.{ℕ, suc, ◌+◌, ◌<◌, ◌≤◌}
use native.Mathlib.Decide.{ℕ_discrete, dec_lt}
use native.Mathlib.Omega.{arith}
use borrow.Author.Tests.{lt-ltb, ltb-true, le-leb, leb-true, eq-eqb, ne_eqb, eqb-true}
use lib.Dec.{eqb, leb, ltb}
use Rattle.words.specs.declared.frame_word.FrameWord.{FrameWord}
use Rattle.words.specs.declared.frame_word.FrameWord.TheVariants.{Host, Waiting, Owned, Damaged}
use Rattle.words.proofs.Booleans.{both_true, false_unless}
use Rattle.granules.specs.Kind.{frame_then}
use Rattle.granules.specs.declared.kinds.Kind.{Kind}
use Rattle.granules.specs.declared.kinds.Kind.TheVariants as kind
use Rattle.history.specs.Log.{FrameChange, never_donated, donated, shared, unshared, relinquished, owner_removed, cleared, among, changed_where}

-- what a frame's word says after a change
abbrev pub owner_after : FrameChange → FrameWord
owner_after never_donated = Host
owner_after (donated v g) = Owned v false g
owner_after (shared v g) = Owned v true g
owner_after (unshared v g) = Owned v false g
owner_after relinquished = Waiting
owner_after owner_removed = Waiting
owner_after cleared = Host

-- the word of a frame at a granule that a change is about
abbrev pub owner_where : (ℕ → ℕ → Bool) → (ℕ → ℕ → FrameWord) → FrameWord → FrameWord
owner_where about made Host = Host
owner_where about made Waiting = Waiting
owner_where about made (Owned u b h) = cond (about u h) (made u h) (Owned u b h)
owner_where about made Damaged = Damaged

owner_either : (x : Bool) (c d : FrameChange) → owner_after (cond x c d) ≡ cond x (owner_after c) (owner_after d)
owner_either true c d = refl
owner_either false c d = refl

-- the log follows the words
pub owner_changed : (about : ℕ → ℕ → Bool) (made : ℕ → ℕ → FrameChange) (c : FrameChange)
    → owner_after (changed_where about made c) ≡ owner_where about (λ u h. owner_after (made u h)) (owner_after c)
owner_changed about made never_donated = refl
owner_changed about made (donated u h) = owner_either (about u h) (made u h) (donated u h)
owner_changed about made (shared u h) = owner_either (about u h) (made u h) (shared u h)
owner_changed about made (unshared u h) = owner_either (about u h) (made u h) (unshared u h)
owner_changed about made relinquished = refl
owner_changed about made owner_removed = refl
owner_changed about made cleared = refl

among_is : (v g n u h : ℕ) → among v g n u h ≡ true → (u ≡ v) × (g ≤ h) × (h < g + n)
among_is v g n u h e =
    let p = both_true (eqb u v) (leb g h && ltb h (g + n)) e in
    let q = both_true (leb g h) (ltb h (g + n)) p.1 in
    (eqb-true u v p.0, leb-true g h q.0, ltb-true h (g + n) q.1)

among_in : (v g n u h : ℕ) → u ≡ v → g ≤ h → h < g + n → among v g n u h ≡ true
among_in v g n u h p q r = both (eqb u v) (leb g h && ltb h (g + n)) (eq-eqb u v p) (both (leb g h) (ltb h (g + n)) (le-leb g h q) (lt-ltb h (g + n) r))
  where
    both : (a b : Bool) → a ≡ true → b ≡ true → a && b ≡ true
    both a b e f = rw (e, f)

among_out : (v g n u h : ℕ) → (u ≡ v → g ≤ h → h < g + n → ⊥) → among v g n u h ≡ false
among_out v g n u h outside = false_unless (among v g n u h) (λ e. let p = among_is v g n u h e in outside p.0 p.1 p.2)

-- one granule more
among_next : (v g n u h : ℕ) → among v g (suc n) u h ≡ cond (among v g n u h) true (among v (g + n) 1 u h)
among_next v g n u h = on (ℕ_discrete u v) (dec_lt h g) (dec_lt h (g + n)) (ℕ_discrete h (g + n))
  where
    on : Dec (u ≡ v) → Dec (h < g) → Dec (h < g + n) → Dec (h ≡ g + n) → among v g (suc n) u h ≡ cond (among v g n u h) true (among v (g + n) 1 u h)
    on (no m) d e f = rw (ne_eqb u v m)
    on (yes m) (yes d) e f = rw (among_out v g (suc n) u h (λ p q r. omega arith), among_out v g n u h (λ p q r. omega arith), among_out v (g + n) 1 u h (λ p q r. omega arith))
    on (yes m) (no d) (yes e) f = rw (among_in v g (suc n) u h m (omega arith) (omega arith), among_in v g n u h m (omega arith) e)
    on (yes m) (no d) (no e) (yes f) = rw (among_in v g (suc n) u h m (omega arith) (omega arith), among_out v g n u h (λ p q r. omega arith), among_in v (g + n) 1 u h m (omega arith) (omega arith))
    on (yes m) (no d) (no e) (no f) = rw (among_out v g (suc n) u h (λ p q r. omega arith), among_out v g n u h (λ p q r. omega arith), among_out v (g + n) 1 u h (λ p q r. omega arith))

pub among_none : (v g u h : ℕ) → among v g 0 u h ≡ false
among_none v g u h = among_out v g 0 u h (λ p q r. omega arith)

-- n granules and then the next, of which one becomes of a kind
pub owner_where_none : (v g : ℕ) (made : ℕ → ℕ → FrameWord) (d : FrameWord) → owner_where (among v g 0) made d ≡ d
owner_where_none v g made Host = refl
owner_where_none v g made Waiting = refl
owner_where_none v g made (Owned u b h) = rw (among_none v g u h)
owner_where_none v g made Damaged = refl

pub owner_where_next : (k : Kind) (v g n : ℕ) (d : FrameWord)
    → owner_where (among v (g + n) 1) (frame_then k) (owner_where (among v g n) (frame_then k) d) ≡ owner_where (among v g (suc n)) (frame_then k) d
owner_where_next k v g n Host = refl
owner_where_next k v g n Waiting = refl
owner_where_next k v g n (Owned u b h) = rw (among_next v g n u h) (on (among v g n u h) refl)
  where
    beyond : (k : Kind) → among v (g + n) 1 u h ≡ false → owner_where (among v (g + n) 1) (frame_then k) (frame_then k u h) ≡ frame_then k u h
    beyond kind.Vacant e = refl
    beyond kind.Private e = rw e
    beyond kind.Shared e = rw e
    beyond kind.Guarded e = refl

    on : (x : Bool) → among v g n u h ≡ x
        → owner_where (among v (g + n) 1) (frame_then k) (cond x (frame_then k u h) (Owned u b h)) ≡ cond (cond x true (among v (g + n) 1 u h)) (frame_then k u h) (Owned u b h)
    on true e = beyond k (among_out v (g + n) 1 u h (λ p q r. omega (arith, among_is v g n u h e)))
    on false e = refl
owner_where_next k v g n Damaged = refl

-- one granule: a frame there, and any other
pub owner_where_here : (made : ℕ → ℕ → FrameWord) (v : ℕ) (b : Bool) (g : ℕ) → owner_where (among v g 1) made (Owned v b g) ≡ made v g
owner_where_here made v b g = rw (among_in v g 1 v g refl (omega arith) (omega arith))

pub owner_where_elsewhere : (made : ℕ → ℕ → FrameWord) (v g : ℕ) (d : FrameWord) → ((b : Bool) → d ≢ Owned v b g) → owner_where (among v g 1) made d ≡ d
owner_where_elsewhere made v g Host n = refl
owner_where_elsewhere made v g Waiting n = refl
owner_where_elsewhere made v g (Owned u b h) n =
    rw (among_out v g 1 u h (λ p q r. n b (let same : h ≡ g = omega arith in rw (p, same))))
owner_where_elsewhere made v g Damaged n = refl
