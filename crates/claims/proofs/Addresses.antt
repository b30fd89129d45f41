-- A granule that is done is below W, at most 4,096, so the next address is at most 2^24. A call that does not refuse does a granule at least, so
-- the next call is made at a greater address.
use mathlib.Core.Path.{◌≡◌, refl, sym, subst, ◌∙◌}
use mathlib.Core.Bool.{Bool, true, false, cond, ◌&&◌}
use mathlib.Core.List.{List}
use Prim.Native.Nat.{ℕ, zero, suc, ◌+◌, ◌*◌, ◌%◌, ◌≤◌, ◌<◌, ◌^◌, min}
use native.Mathlib.Omega.{arith}
use borrow.Author.Tests.{leb-true}
use lib.Dec.{eqb, leb}
use lib.ListN.{length}
use Rattle.runs.specs.Run.{took, complete, refused, End, ended, run}
use Rattle.runs.specs.Made.{calls_made, Every, Rising}
use Rattle.runs.proofs.Kept.{Holds, kept}
use Rattle.runs.proofs.MadeLaws.{every_first, made_every, made_rising}
use Rattle.runs.proofs.Pieces.{told}
use Rattle.words.specs.Granule.{granule_size}
use Rattle.words.proofs.Booleans.{never, both_true}
use Rattle.tables.specs.Length.{frames_hold, width_of, map_holds, lengths_hold}
use Rattle.answers.specs.Answer.{numbers_of}
use Rattle.commands.specs.State.{State}
use Rattle.ranges.specs.Range.{range_limit}
use Rattle.answers.specs.declared.answer.Numbers.{Numbers}
use Rattle.claims.specs.SingleSteps.{RangeCall, number_of, changed_at, At, at, single_step}
use Rattle.functions.specs.Rules.{registers}
use Rattle.guest_hypercalls.specs.Calls.{hypercall_of}
use Rattle.claims.specs.Pieces.{is_range_refusal, call_at, address_in, AddressFits}
use Rattle.claims.proofs.CallAgrees.{NotLegacy, not_legacy_kept, call_agrees}
use Rattle.claims.proofs.Changes.{single_took}
use Rattle.claims.proofs.R1Laws.{tells_changes}

width_bounded : (f n : ℕ) → lengths_hold f n ≡ true → width_of n ≤ 4096
unfolding map_holds
width_bounded f n h =
    let m = (both_true (frames_hold f) (map_holds n) h).1 in
    let w = (both_true (eqb (n % 8) 0) (leb 1 (width_of n) && leb (width_of n) 4096) m).1 in
    leb-true (width_of n) 4096 (both_true (leb 1 (width_of n)) (leb (width_of n) 4096) w).1

module _ (c : RangeCall) (v r3 : ℕ) where
  -- the address fits a register, and the steps agree with the calls
  abbrev Fits : At → Type 0
  Fits p = AddressFits p × NotLegacy v p

  fits_kept : (p q : At) → Fits p → single_step c v r3 p ≡ took q → Fits q
  fits_kept (at b s) q h e =
      let u = single_took c v r3 b s q e in
      let width = width_bounded (length s.frames) (length s.map) u.passed.lengths in
      let next : AddressFits (at (b + granule_size) (changed_at c v b s)) = omega (arith, u.granule.below, width) in
      (subst AddressFits u.granule.to next, not_legacy_kept c v r3 (at b s) q h.1 e)

  told_holds : (P : At → Type 0) (e : End At Numbers) (k : ℕ) (t : At) → Holds (λ k. P) 0 e → told e ≡ ended k t complete → P t
  told_holds P (ended zero p r) k t h e = let same : p ≡ t = cc in rw same at h
  told_holds P (ended (suc d) p r) k t h e = let same : p ≡ t = cc in rw same at h

  module _ (r0 : ℕ → ℕ) (number : (b : ℕ) → r0 b % 2 ^ 32 ≡ number_of c) where
    -- what the single steps keep, the calls keep
    call_keeps : (P : At → Type 0) → ((p q : At) → P p → single_step c v r3 p ≡ took q → P q) → ((p : At) → P p → NotLegacy v p)
        → (m : ℕ) (p : At) (k : ℕ) (q : At) → 1 ≤ m → P p → call_at r0 v r3 m p ≡ ended k q complete → P q
    call_keeps P next ranged m p k q h i e =
        told_holds P (run (single_step c v r3) (min range_limit m) p) k q (kept (λ k. P) (single_step c v r3) (λ k. next) (min range_limit m) 0 p i)
        (sym (call_agrees c r0 number v r3 m p h (ranged p i)) ∙ e)

    -- every call that carrying on makes has an R1 of 64 bits
    pub calls_fit : (ms : List ℕ) (p : At) → AddressFits p → NotLegacy v p → Every AddressFits (calls_made (call_at r0 v r3) ms p)
    calls_fit ms p f i =
        every_first AddressFits (NotLegacy v) (calls_made (call_at r0 v r3) ms p)
        (made_every Fits (call_at r0 v r3) (call_keeps Fits fits_kept (λ p h. h.1)) ms p (f, i))

    rises : (m : ℕ) (p : At) (k : ℕ) (q : At) → 1 ≤ m → NotLegacy v p → call_at r0 v r3 m p ≡ ended k q complete → address_in p < address_in q
    rises m (at b s) k (at b' t) h i e =
        let r = hypercall_of v (registers (r0 b) b m r3) s in
        let a = numbers_of r.answer in
        on r.left a (is_range_refusal a) (λ z. ((tells_changes c (r0 b) (number b) v b r3 s i m).done z).0) e
      where
        on : (u : State) (a : Numbers) (x : Bool) → (x ≡ false → 1 ≤ a.v1)
            → cond x (ended 0 (at b u) (refused a)) (ended a.v1 (at (b + granule_size * a.v1) u) complete) ≡ ended k (at b' t) complete → b < b'
        on u a true some e = never cc
        on u a false some e = let there : b + granule_size * a.v1 ≡ b' = cc in omega (arith, some refl)

    -- no two calls that carrying on makes are made at one address
    pub calls_rise : (ms : List ℕ) (p : At) → NotLegacy v p → Rising address_in (calls_made (call_at r0 v r3) ms p)
    calls_rise ms p i =
        made_rising (NotLegacy v) address_in (call_at r0 v r3) (call_keeps (NotLegacy v) (not_legacy_kept c v r3) (λ p h. h)) rises ms p i
