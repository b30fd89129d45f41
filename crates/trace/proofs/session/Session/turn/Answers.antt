-- The bytes that were not taken stay at hand.
use Rattle.trace.proofs.PieceLaws.{turns}
use Rattle.trace.proofs.session.Session.turn.Goals as goal

pub returns : goal.returns
returns c = turns _ _ _ _ _ _ (cc) c.consume.ensures
