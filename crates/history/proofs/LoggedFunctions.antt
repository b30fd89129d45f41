-- The numbers that the log reads are those of share, unshare and relinquish.
use mathlib.Core.Path.{◌≡◌, refl, sym}
use mathlib.Core.Bool.{Bool, true, false, cond}
use Prim.Native.Nat.{ℕ, ◌%◌, ◌^◌}
use borrow.Author.Tests.{eqb-true}
use lib.Dec.{eqb}
use Rattle.words.specs.Granule.{granule_of}
use Rattle.functions.specs.Function.{function_of, asked_by}
use Rattle.functions.specs.declared.numbers.Function.{Function}
use Rattle.functions.specs.declared.numbers.Function.TheVariants.{Features, Uid, MemoryInfo, Share, Unshare, GuardInfo, Enroll, GuardMap, GuardUnmap, Relinquish, RangeGuardMap, RangeGuardUnmap, Unknown}
use Rattle.functions.specs.declared.rules.Registers.{Registers}
use Rattle.history.specs.Log.{FrameChange, shared, unshared, relinquished, among, changed_where, told_granules, after_hypercall}

-- what a function that is done makes of a frame, with n told in R1
abbrev pub after_function : Function → ℕ → ℕ → ℕ → FrameChange → FrameChange
after_function Features v g n c = c
after_function Uid v g n c = c
after_function MemoryInfo v g n c = c
after_function Share v g n c = changed_where (among v g (told_granules n)) shared c
after_function Unshare v g n c = changed_where (among v g (told_granules n)) unshared c
after_function GuardInfo v g n c = c
after_function Enroll v g n c = c
after_function GuardMap v g n c = c
after_function GuardUnmap v g n c = c
after_function Relinquish v g n c = changed_where (among v g 1) (λ u h. relinquished) c
after_function RangeGuardMap v g n c = c
after_function RangeGuardUnmap v g n c = c
after_function Unknown v g n c = c

module _ (v g n : ℕ) (c : FrameChange) where
  abbrev after : Function → FrameChange
  after F = after_function F v g n c

  either : (b : Bool) (F G : Function) → after F ≡ c → after G ≡ c → after (cond b F G) ≡ c
  either true F G p q = p
  either false F G p q = q

  abbrev by_number : Bool → Bool → Bool → FrameChange
  by_number s u r =
      cond s (changed_where (among v g (told_granules n)) shared c)
      (cond u (changed_where (among v g (told_granules n)) unshared c)
      (cond r (changed_where (among v g 1) (λ u h. relinquished) c)
      c))

  by_number_lem : (k : ℕ) → by_number (eqb k 0xC6000003) (eqb k 0xC6000004) (eqb k 0xC6000009) ≡ after (function_of k)
  unfolding function_of
  by_number_lem k = on (eqb k 0xC6000003) refl (eqb k 0xC6000004) refl (eqb k 0xC6000009) refl
    where
      on : (s : Bool) → eqb k 0xC6000003 ≡ s → (u : Bool) → eqb k 0xC6000004 ≡ u → (r : Bool) → eqb k 0xC6000009 ≡ r → by_number s u r ≡ after (function_of k)
      on true p u q r e = rw (eqb-true k 0xC6000003 p)
      on false p true q r e = rw (eqb-true k 0xC6000004 q)
      on false p false q true e = rw (eqb-true k 0xC6000009 e)
      on false p false q false e =
          rw (p, q, e)
          (sym
          (either (eqb k 0x86000000) Features _ refl
          (either (eqb k 0x8600FF01) Uid _ refl
          (either (eqb k 0xC6000002) MemoryInfo _ refl
          (either (eqb k 0xC6000005) GuardInfo _ refl
          (either (eqb k 0xC6000006) Enroll _ refl
          (either (eqb k 0xC6000007) GuardMap _ refl
          (either (eqb k 0xC6000008) GuardUnmap _ refl
          (either (eqb k 0xC600000A) RangeGuardMap _ refl
          (either (eqb k 0xC600000B) RangeGuardUnmap Unknown refl refl))))))))))

pub after_asked : (v : ℕ) (r : Registers) (n : ℕ) (c : FrameChange) → after_hypercall v r n c ≡ after_function (asked_by r.r0) v (granule_of r.r1) n c
unfolding after_hypercall
after_asked v r n c = by_number_lem v (granule_of r.r1) n c (r.r0 % 2 ^ 32)
