-- A number that is none of the twelve belongs to no call.
use mathlib.Core.Path.{◌≡◌}
use mathlib.Core.Logic.{◌≢◌}
use Prim.Native.Nat.{ℕ}
use borrow.Author.Tests.{ne_eqb}
use Rattle.functions.specs.Function.{function_of}
use Rattle.functions.specs.declared.numbers.Function.TheVariants.{Unknown}

pub unknown : (n : ℕ) → n ≢ 0x86000000 → n ≢ 0x8600FF01 → n ≢ 0xC6000002 → n ≢ 0xC6000003 → n ≢ 0xC6000004 → n ≢ 0xC6000005 → n ≢ 0xC6000006
    → n ≢ 0xC6000007 → n ≢ 0xC6000008 → n ≢ 0xC6000009 → n ≢ 0xC600000A → n ≢ 0xC600000B → Unknown ≡ function_of n
unfolding function_of
unknown n a b c d e f g h i j k l =
    rw (
      ne_eqb n 0x86000000 a,
      ne_eqb n 0x8600FF01 b,
      ne_eqb n 0xC6000002 c,
      ne_eqb n 0xC6000003 d,
      ne_eqb n 0xC6000004 e,
      ne_eqb n 0xC6000005 f,
      ne_eqb n 0xC6000006 g,
      ne_eqb n 0xC6000007 h,
      ne_eqb n 0xC6000008 i,
      ne_eqb n 0xC6000009 j,
      ne_eqb n 0xC600000A k,
      ne_eqb n 0xC600000B l,
    )
