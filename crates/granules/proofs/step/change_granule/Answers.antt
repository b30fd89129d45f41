-- Beyond the row it is refused. Else by the comparison of the granule with the kind that is needed: what it has is written, or nothing is.
use mathlib.Core.Path.{◌≡◌, refl, sym, ◌∙◌}
use mathlib.Core.Bool.{true, false}
use Rattle.std.proofs.lemmas.Result.{err_from_is_err_and}
use Rattle.words.specs.FrameWord.{frame_bits}
use Rattle.granules.specs.Comparison.{is_shared}
use Rattle.granules.proofs.ChangeLaws.{frame_pair}
use Rattle.granules.proofs.KindLaws.{frame_of}
use Rattle.granules.proofs.StepLaws.{beyond_row, differs, bare_left, bare_done, frame_done}
use Rattle.granules.proofs.step.change_granule.Goals as goal

pub returns-then-row-number : goal.returns-then-row-number
returns-then-row-number c = beyond_row _ _ _ _ _ c.if-row-number.true

pub returns-in_err-held : goal.returns-in_err-held
returns-in_err-held c =
    let p = err_from_is_err_and c.from_residual.result c.from_residual.ensures.1 in
    rw (p.1, p.2) (differs _ _ _ c.args.row.now _ c.if-row-number.false _ c.compare.ensures.compared _ c.in_err-held.was)

pub returns-in_default : goal.returns-in_default
returns-in_default c =
    bare_left _ _ _ c.args.row.now _ c.if-row-number.false _ c.compare.ensures.compared (rw c.in_default.is at c.in_ok-held.was)
    (sym c.has_frame.ensures ∙ c.if-has_frame.true)

pub returns-then-has_frame : goal.returns-then-has_frame
returns-then-has_frame c =
    let held = rw c.in-Some.is at c.in_ok-held.was in
    let from : c.is_shared-from.result ≡ is_shared c.args.operation.needs = c.is_shared-from.ensures in
    let w = rw (← from) at (frame_pair _ _ _ _ _ _ (sym (frame_of _ _ _ (sym held ∙ c.compare.ensures.compared)))) in
    frame_done _ _ _ c.args.row.now _ c.if-row-number.false _ c.compare.ensures.compared _ held true (sym c.has_frame.ensures ∙ c.if-has_frame.true) _ _
    (rw c.is_shared-to.ensures at (c.reshared.ensures _ w.word))
    (rw c.is_shared-to.ensures at (c.reshared-then-has_frame.ensures _ _ w.owner))

pub returns-in-Some-held : goal.returns-in-Some-held
unfolding frame_bits
returns-in-Some-held c =
    frame_done _ _ _ c.args.row.now _ c.if-row-number.false _ c.compare.ensures.compared _ (rw c.in-Some-held.is at c.in_ok-held.was)
    false (sym c.has_frame.ensures ∙ c.if-has_frame.false) _ _ (rw c.is_guarded.ensures at c.of_bare.ensures) refl

pub returns-in_default-held : goal.returns-in_default-held
returns-in_default-held c =
    bare_done _ _ _ c.args.row.now _ c.if-row-number.false _ c.compare.ensures.compared (rw c.in_default-held.is at c.in_ok-held.was)
    (sym c.has_frame.ensures ∙ c.if-has_frame.false) _ (rw c.is_guarded.ensures at c.of_bare.ensures)
