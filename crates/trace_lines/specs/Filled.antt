-- What a buffer in fixed memory holds.
use Rattle.std.specs.Prelude.{ℕ, List, [], ◌++◌, length, take, drop}

-- the bytes that count, and those behind them
pub record Filled : Type 0 where
  pub text : List ℕ
  pub behind : List ℕ

abbrev pub filled : List ℕ → List ℕ → Filled
filled t b = record { text = t; behind = b }

-- the first n bytes count
abbrev pub filled_to : ℕ → List ℕ → Filled
filled_to n bytes = filled (take n bytes) (drop n bytes)

-- none count, and all stay
abbrev pub cleared : Filled → Filled
cleared b = filled [] (b.text ++ b.behind)

-- bytes stand behind the text, in the place of so many; the others behind them stay
abbrev pub with_put : Filled → List ℕ → Filled
with_put b s = filled (b.text ++ s) (drop (length s) b.behind)
