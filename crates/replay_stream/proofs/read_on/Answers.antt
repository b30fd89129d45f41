-- At first nothing is read or written. A turn reads a piece and writes its text. At the end of the log the last lines follow.
use Rattle.std.proofs.Common.{arith, ◌∙◌}
use Rattle.replay_stream.proofs.StreamLaws.{on_ok, begun, turned, closed}
use Rattle.replay_stream.proofs.read_on.Goals as goal

pub loop-init : goal.loop-init
loop-init g c = rw c.new-input.ensures (omega arith, begun _ _ _)

pub returns-then-branch-eq0 : goal.returns-then-branch-eq0
returns-then-branch-eq0 g c =
    let (few, way) = c.loop.invariant in
    let (p, long, more, behind, end) = c.in_ok-read_behind.ensures.read in
    let last = end c.if-branch-eq0.true (omega arith) in
    let wrote = rw (c.close.ensures, c.as_slice.ensures.bytes) at c.write_out.ensures in
    on_ok c.write_out.result (closed p _ _ way (long ∙ c.if-branch-eq0.true) more behind last) wrote

pub loop-preserved : goal.loop-preserved
loop-preserved g c =
    let (few, way) = c.loop.invariant in
    let (p, long, more, behind, end) = c.in_ok-read_behind.ensures.read in
    let turns = rw behind at c.turn.ensures in
    (turns.few, turned p _ _ way more turns c.in_ok-write_out.ensures)
