-- By `compare_frame` where the kind has a frame, and by the map word where it has none.
use mathlib.Core.Path.{◌≡◌, sym, ◌∙◌}
use mathlib.Core.Bool.{true, false}
use Rattle.std.specs.Prelude.{◌<◌, length, Some, None}
use Rattle.granules.proofs.ChangeLaws.{frame_pair}
use Rattle.granules.proofs.KindLaws.{framed_compared, bare_compared, frame_of}
use Rattle.granules.proofs.step.compare.Goals as goal
use Rattle.granules.proofs.step.compare.Goals.{then-has_frame+in_default, else-has_frame+else-is_bare}

pub returns-in-Some-clause-inside : goal.returns-in-Some-clause-inside
returns-in-Some-clause-inside c =
    let held = framed_compared _ _ (sym c.has_frame.ensures ∙ c.if-has_frame.true) (Some c.in-Some.frame) (rw c.is_shared.ensures at c.in-Some.ensures) in
    let inside : c.in-Some.frame < length c.args.frames.now = (frame_pair _ _ _ _ _ _ (sym (frame_of _ _ _ held))).inside in
    λ f e. let same : c.in-Some.frame ≡ f = cc in rw (← same) inside

pub returns-then-is_bare-clause-compared : goal.returns-then-is_bare-clause-compared
returns-then-is_bare-clause-compared c = bare_compared _ _ _ _ _ (sym c.has_frame.ensures ∙ c.if-has_frame.false) true (rw (← c.is_guarded.ensures) (sym c.is_bare.ensures ∙ c.if-is_bare.true))

pub returns-clause-compared : goal.returns-clause-compared
returns-clause-compared c =
    rw c.refusal.ensures
    (elim c.if-has_frame.branch [
      | then-has_frame+in_default w ↦ framed_compared _ _ (sym c.has_frame.ensures ∙ w.if-has_frame.true) None (rw w.is_shared.ensures at w.in_default.ensures)
      | else-has_frame+else-is_bare w ↦ bare_compared _ _ _ _ _ (sym c.has_frame.ensures ∙ w.if-has_frame.false) false (rw (← w.is_guarded.ensures) (sym w.is_bare.ensures ∙ w.if-is_bare.false))
    ])
