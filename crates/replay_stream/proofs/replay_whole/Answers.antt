-- The first line is written, and behind it the text of the pieces.
use Rattle.replay_stream.proofs.StreamLaws.{on_ok, whole}
use Rattle.replay_stream.proofs.replay_whole.Goals as goal

pub returns : goal.returns
returns g c =
    let first = rw (c.put.ensures, c.new-text.ensures) at c.in_ok-write_out.ensures in
    on_ok c.read_on.result (λ h. whole _ _ _ _ first (rw c.begin-session.ensures at h)) c.read_on.ensures
