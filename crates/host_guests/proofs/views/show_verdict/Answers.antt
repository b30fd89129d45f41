-- The answer that is decided.
use Rattle.host_guests.proofs.GuestLaws.{show_performed}
use Rattle.host_guests.specs.Calls.{show_command}
use Rattle.commands.proofs.CommandLaws.{applying}
use Rattle.commands.specs.State.{Answered, state}
use mathlib.Core.List.{[]}
use mathlib.Core.Path.{refl, ap, ◌∙◌}
use Rattle.host_guests.proofs.views.show_verdict.Goals as goal

pub returns : goal.returns
returns c =
    let entry = c.args in
    let before = state [] entry.map.now entry.monitor in
    ap (λ (a : Answered). a.answer)
    (applying (show_command entry.slot) before entry.slot _ _ refl c.guest.ensures (c.decide_show.ensures []) ∙ show_performed entry.slot before)
