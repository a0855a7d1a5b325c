use Rattle.std.proofs.Common.{sym, ap, ◌∙◌}
use Rattle.step.proofs.Working.{made, not_made}
use Rattle.step.proofs.step.step_chip.Goals as goal

pub returns-in_err-action-clause-is : goal.returns-in_err-action-clause-is
returns-in_err-action-clause-is g c =
    let s = c.args.fitted.now.chip in
    let b = c.args.fitted.now.board in
    ap (λ o. (o, (s, b))) c.from_residual.ensures ∙ not_made g.B.Board s b c.show-reading.result c.show-reading.ensures (sym c.next_action.ensures.is ∙ c.in_err-action.was)

pub returns-clause-is : goal.returns-clause-is
returns-clause-is g c =
    made g.B.Board c.args.fitted.now.chip c.args.fitted.now.board c.show-reading.result c.show-reading.ensures c.in_ok-action.action c.work.result
    (c.work.new.fitted.chip, c.work.new.fitted.board) (sym c.next_action.ensures.is ∙ c.in_ok-action.was) c.work.ensures.is
