-- Lines as a whole: the longest has 105 bytes, and one that has room is put whole.
use mathlib.Core.Path.{◌≡◌}
use Prim.Native.Nat.{ℕ, ◌+◌, ◌≤◌}
use native.Mathlib.Omega.{arith}
use borrow.Author.Tests.{le-leb}
use lib.ListN.{length, length-append}
use Rattle.trace_lines.specs.Line.{line_text, text_put}
use Rattle.trace_lines.specs.declared.lines.Line.{Line}
use Rattle.trace_lines.specs.declared.lines.Line.TheVariants.{First, Answer, Bad, Last}
use Rattle.trace_lines.proofs.DecimalLaws.{decimal_short, cell_short}

pub line_length : (l : Line) → length (line_text l) ≤ 105
line_length First = omega arith
line_length (Answer a) =
    simp length-append
    (omega (arith, decimal_short a.verdict, decimal_short a.v0, decimal_short a.v1, decimal_short a.v2, decimal_short a.v3))
line_length Bad = omega arith
line_length (Last n) = omega (arith, cell_short n 10)

pub put_whole : (l : Line) (n : ℕ) → n + 105 ≤ 131072 → text_put n l ≡ line_text l
put_whole l n h = rw (le-leb n 130967 (omega arith))
