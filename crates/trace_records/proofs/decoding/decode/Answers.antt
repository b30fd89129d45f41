-- Fewer than four bytes are those of a start or bad. Of four or more, the kind gives the length that the first two must hold.
use Rattle.std.proofs.Common.{◌≡◌, ◌+◌, ◌∙◌, sym, length, Some}
use borrow.Author.Tests.{lt-ltb, le-ltb}
use Rattle.trace_records.specs.Record.{kind_in, record_in, decode_of}
use Rattle.trace_records.proofs.DecodeLaws.{an_error, by_start, by_kind}
use Rattle.trace_records.proofs.decoding.decode.Goals as goal
use Rattle.trace_records.proofs.decoding.decode.Goals.{In_ok-kind}

pub returns-then-start_holds : goal.returns-then-start_holds
returns-then-start_holds c = sym (by_start c.args.s.now c.if-s-lt4.true ∙ rw (← c.start_holds.ensures, c.if-start_holds.true))

pub returns-else-start_holds : goal.returns-else-start_holds
returns-else-start_holds c = sym (by_start c.args.s.now c.if-s-lt4.true ∙ rw (← c.start_holds.ensures, c.if-start_holds.false))

pub returns-in_err-kind : goal.returns-in_err-kind
returns-in_err-kind c =
    an_error c.from_residual.result c.from_residual.ensures.0
    ∙ sym (by_kind c.args.s.now c.if-s-lt4.false ∙ rw (← c.of.ensures, c.in_err-kind.ensures.ok_part))

known : (c : In_ok-kind) → kind_in c.args.s.now ≡ Some c.in_ok-kind.kind
known c = sym c.of.ensures ∙ c.in_ok-kind.ensures.ok_part

by_known : (c : In_ok-kind) → decode_of c.args.s.now ≡ record_in (Some c.in_ok-kind.kind) c.args.s.now
by_known c = by_kind c.args.s.now c.if-s-lt4.false ∙ rw (known c)

pub returns-then-not-header_holds : goal.returns-then-not-header_holds
returns-then-not-header_holds c =
    sym (by_known (goal.at.returns-then-not-header_holds c).In_ok-kind
    ∙ rw (← c.length-length.ensures, ← c.header_holds.ensures, c.if-not-header_holds.true))

pub returns-then-s-size : goal.returns-then-s-size
returns-then-s-size c =
    sym (by_known (goal.at.returns-then-s-size c).In_ok-kind
    ∙ rw (← c.length-length.ensures, ← c.header_holds.ensures, c.if-not-header_holds.false, lt-ltb (length c.args.s.now) (2 + c.length-length.result) c.if-s-size.true))

pub returns : goal.returns
returns c =
    sym (by_known (goal.at.returns c).In_ok-kind
    ∙ rw (← c.length-length.ensures, ← c.header_holds.ensures, c.if-not-header_holds.false, le-ltb (length c.args.s.now) (2 + c.length-length.result) c.if-s-size.false, c.asked.ensures))
