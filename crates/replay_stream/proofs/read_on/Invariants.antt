-- Few bytes are at hand, and the stream is on its way from what the reader had left and the writer held at first.
use Rattle.std.proofs.Common.{◌<◌, length}
use Rattle.trace.specs.Ensured.{kept}
use Rattle.replay_stream.proofs.StreamLaws.{OnTheWay}
use Rattle.replay_stream.proofs.read_on.Given as goal

abbrev pub invariant-loop : goal.invariant-loop
invariant-loop g l =
    (length l.input.text < 37)
    × OnTheWay
    (kept l.initial.session l.initial.frames l.initial.map)
    (g.R.Read.remaining l.initial.from)
    (g.R.Read.remaining l.from)
    (g.W.Write.contents l.initial.to)
    (g.W.Write.contents l.to)
    (kept l.session l.frames l.map)
    l.input.text
