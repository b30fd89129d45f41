-- Each turn is one record of the definition; the text of each stands behind that of those before it, and has 21 bytes at the most for each byte
-- taken, so there is room for another line while bytes are left.
use Rattle.std.proofs.Common.{length, ◌-◌, ◌*◌, ◌≤◌, ◌≡◌, false}
use Rattle.trace.specs.Ensured.{kept}
use Rattle.trace.proofs.ContinueLaws.{Continues}
use Rattle.trace.proofs.session.Session.replay.Given as goal

abbrev pub invariant-loop-taken : goal.invariant-loop-taken
invariant-loop-taken l =
    Continues (kept l.initial.self l.initial.frames l.initial.map) l.bytes (kept l.self l.frames l.map) l.taken l.text.text
    × (l.taken ≤ length l.bytes)
    × (length l.text.text ≤ 21 * l.taken)
    × (l.self.stopped ≡ false)

abbrev pub decreases-loop-taken : goal.decreases-loop-taken
decreases-loop-taken l = length l.bytes - l.taken
