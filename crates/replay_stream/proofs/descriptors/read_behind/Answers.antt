-- What was read stands behind the bytes at hand.
use Rattle.std.proofs.Common.{◌≡◌, ◌≤◌, ◌++◌, ap, ◌∙◌, take, arith, length}
use lib.Seq.{length-take-le}
use Rattle.std.proofs.lemmas.List.{take_min}
use Rattle.trace_lines.specs.Filled.{Filled}
use Rattle.replay_stream.proofs.StreamLaws.{put_behind}
use Rattle.replay_stream.proofs.descriptors.read_behind.Goals as goal

pub returns-in-Ok-clause-read : goal.returns-in-Ok-clause-read
returns-in-Ok-clause-read g c =
    let n = c.in-Ok.count in
    let bytes = c.read.new.buf in
    let here = c.input.inside in
    let k = c.min-held.result in
    let within : k ≤ length here.bytes = omega arith in
    let held : take k here.bytes ≡ c.args.input.now.text =
    rw c.min-held.ensures (take_min here.filled here.bytes) ∙ ap (λ (b : Filled). b.text) c.input.view_is
    in
    let size : length c.args.input.now.text ≡ k = rw (← held) (length-take-le k here.bytes within) in (
      take n bytes,
      length-take-le n bytes c.in-Ok.ensures.bound.0,
      c.in-Ok.ensures.bytes.0,
      put_behind k _ n here.bytes bytes within c.in-Ok.ensures.bound.0 ∙ ap (λ h. h ++ take n bytes) held,
      λ none room. c.in-Ok.ensures.bytes.1 none (omega (arith, c.read.auto.buf)),
    )
