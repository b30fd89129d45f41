-- The digits that `io::decimal` puts are the numeral of the definition, and there are at most 20 of them.
-- Of a number of two digits or more, the tenth part has one digit less; a number of one digit is its own last digit.
use mathlib.Core.Path.{◌≡◌, refl, ap}
use mathlib.Core.Bool.{Bool, true, false, cond}
use mathlib.Core.List.{List, [], ◌∷◌, ◌++◌}
use Prim.Native.Nat.{ℕ, zero, suc, ◌+◌, ◌-◌, ◌/◌, ◌%◌, ◌^◌, ◌≤◌, ◌<◌}
use native.Mathlib.Nat.{pow-suc, one-le-pow, pow-le-pow_right, mod-eq_of_lt}
use native.Mathlib.Numerals.{sub-one}
use native.Mathlib.Omega.{arith}
use borrow.Author.Tests.{leb-true, leb-false, lt-ltb, le-ltb}
use lib.Dec.{leb, ltb}
use lib.ListN.{length, length-append}
use mir.Syntax.{w64}
use mir.Val.{Fits}
use Rattle.io.specs.Digits.{last_digits, IsDigitCount}
use Rattle.trace_lines.specs.Line.{digit, numeral, decimal, cell}
use Rattle.trace_lines.specs.Filled.{Filled, with_put}
use Rattle.trace_lines.proofs.BufferLaws.{put_put}

-- a numeral is no longer than its fuel
numeral_short_by : (t : Bool) (k d e : ℕ) (l : List ℕ) → length l ≤ k → length (cond t (d ∷ []) (l ++ (e ∷ []))) ≤ suc k
numeral_short_by true k d e l h = omega arith
numeral_short_by false k d e l h = omega (arith, length-append l (e ∷ []))

numeral_short : (k n : ℕ) → length (numeral k n) ≤ k
unfolding numeral
numeral_short zero n = omega arith
numeral_short (suc k) n = numeral_short_by (ltb n 10) k (digit n) (digit (n % 10)) (numeral k (n / 10)) (numeral_short k (n / 10))

pub decimal_short : (n : ℕ) → length (decimal n) ≤ 20
unfolding decimal
decimal_short n = numeral_short 20 n

pub decimal_digit : (n : ℕ) → n < 10 → decimal n ≡ digit n ∷ []
unfolding decimal numeral
decimal_digit n h = rw (lt-ltb n 10 h)

-- a cell takes at most 21 bytes
pub cell_short : (x e : ℕ) → length (cell x e) ≤ 21
cell_short x e = omega (arith, length-append (decimal x) (e ∷ []), decimal_short x)

pub after_decimal : (b : List ℕ) (x : ℕ) → length (b ++ decimal x) ≤ length b + 20
after_decimal b x = omega (arith, length-append b (decimal x), decimal_short x)

pub after_cell : (b : List ℕ) (x e : ℕ) → length (b ++ cell x e) ≤ length b + 21
after_cell b x e = omega (arith, length-append b (cell x e), cell_short x e)

-- a number of 64 bits has at most 20 digits
digits_few_by : (n k : ℕ) → Fits w64 n → (1 < k → 10 ^ (k - 1) ≤ n) → (b : Bool) → leb k 20 ≡ b → k ≤ 20
digits_few_by n k h f true e = leb-true k 20 e
digits_few_by n k h f false e =
    let p = leb-false k 20 e in
    omega (arith, h.fits, f (omega arith), pow-le-pow_right {n = 10} (omega arith) {i = 20} {j = k - 1} (omega arith))

pub digits_few : (n k : ℕ) → Fits w64 n → IsDigitCount 10 1 n k → k ≤ 20
digits_few n k h f = digits_few_by n k h f.2 (leb k 20) refl

-- the digits of a number that has suc j of them, by any fuel that is no less
same_digits : (j f n : ℕ) → n < 10 ^ suc j → (0 < j → 10 ^ j ≤ n) → j < f → last_digits 10 (suc j) n ≡ numeral f n
unfolding numeral
same_digits j zero n h l p = absurd (omega arith)
same_digits zero (suc f) n h l p =
    let small : n < 10 = omega arith in
    rw (mod-eq_of_lt small, lt-ltb n 10 small)
same_digits (suc j) (suc f) n h l p =
    let tens = pow-suc 10 j in
    let more = pow-suc 10 (suc j) in
    let low = l (omega arith) in
    let one = one-le-pow j 10 (omega arith) in
    let large : 10 ≤ n = omega arith in
    let last : n % 10 < 10 = omega arith in
    let fewer = same_digits j f (n / 10) (omega arith) (λ i. omega arith) (omega arith) in
    rw (le-ltb n 10 large, lt-ltb (n % 10) 10 last) (ap (λ (s : List ℕ). s ++ (digit (n % 10) ∷ [])) fewer)

same_numeral : (n k : ℕ) → IsDigitCount 10 1 n k → k ≤ 20 → last_digits 10 k n ≡ decimal n
unfolding decimal
same_numeral n zero f p = absurd (omega arith)
same_numeral n (suc j) f p = same_digits j 20 n f.1 (λ h. rw sub-one at (f.2 (omega arith))) p

pub digits_decimal : (n k : ℕ) → Fits w64 n → IsDigitCount 10 1 n k → last_digits 10 k n ≡ decimal n
digits_decimal n k h f = same_numeral n k f (digits_few n k h f)

-- they are put, and a byte behind them
pub digits_cell : (b : Filled) (l : List ℕ) (n k e : ℕ) → Fits w64 n → IsDigitCount 10 1 n k → l ≡ last_digits 10 k n
    → with_put (with_put b l) (e ∷ []) ≡ with_put b (cell n e)
digits_cell b l n k e h f d = rw (d, digits_decimal n k h f) (put_put b (decimal n) (e ∷ []))
