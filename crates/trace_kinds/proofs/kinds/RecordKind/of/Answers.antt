-- A number from 1 to that of the last kind is a place in the list; the others are none.
use Rattle.std.proofs.Common.{rules, ◌≡◌, arith, ◌∙◌, sym, slice_get}
use Rattle.trace_kinds.specs.RecordKind.{kinds, kind_of}
use Rattle.trace_kinds.proofs.RecordKindLaws.{kind_placed}
use Rattle.trace_kinds.proofs.kinds.RecordKind.of.Goals as goal

pub returns-in_err-place : goal.returns-in_err-place
unfolding kind_of
returns-in_err-place c =
    let none : c.args.number ≡ 0 = grind (arith, c.in_err-place.ensures, c.from.ensures) in
    rw none c.from_residual.ensures

pub returns : goal.returns
returns c =
    let at : c.copied.result ≡ slice_get kinds c.in_ok-place.place = search rules in
    at ∙ sym (kind_placed c.args.number c.in_ok-place.place (omega (arith, c.in_ok-place.ensures, c.from.ensures)))
