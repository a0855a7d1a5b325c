use Rattle.std.proofs.Common.{ap, ◌∙◌, arith}
use Rattle.chip.specs.Cycle.{passed}
use Rattle.chip.specs.Pins.{active}
use Rattle.cycles.proofs.Cycles.{at_once}
use Rattle.cycles.proofs.Fitted.pass_cycles.Goals as goal

pub returns-then-quiet-from : goal.returns-then-quiet-from
returns-then-quiet-from g c =
    let m = g.B.Board in
    let s = c.args.self.now.chip in
    let b = c.args.self.now.board in
    let y = c.active-active.ensures ∙ ap (λ r. active r s) c.show.ensures in
    let chip = c.pass.ensures ∙ (λ j. passed c.args.rises (y j) (c.from-then-quiet-from-2.ensures j) s) in
    let board = c.advance.ensures ∙ ap (m.advanced b) c.from-then-quiet-from.ensures in
    (λ j. (chip j, board j)) ∙ at_once m c.args.rises c.args.n s b c.requires.1 (λ k h. c.quiet.ensures k (omega arith))
