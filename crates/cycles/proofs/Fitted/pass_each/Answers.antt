use Rattle.std.proofs.Common.{◌≡◌, ◌+◌, ◌-◌, sym, ap, ◌∙◌, arith}
use Rattle.chip.specs.Pins.{active}
use Rattle.cycles.specs.Cycles.{cycled}
use Rattle.cycles.proofs.Cycles.{once, cycled_first, cycled_none, in_range}
use Rattle.cycles.proofs.Fitted.pass_each.Goals as goal

pub loop-preserved : goal.loop-preserved
loop-preserved g c =
    let m = g.B.Board in
    let s = c.loop.self.chip in
    let b = c.loop.self.board in
    let n = c.args.n in
    let i = c.loop.counter in
    let rises = c.args.rises in
    let y = active (m.shows (m.advanced b 1) 0) s in
    let chip = c.cycle.ensures.chip ∙ once rises y s in
    let count : n - (i + 1) ≡ n - i - 1 = omega arith in
    let room = c.loop.invariant.1 in
    let more = in_range rises y s (room.0, room.1, omega arith) in
    let t = ap (λ x. x.timer.t) c.cycle.ensures.chip in
    let rate = ap (λ x. x.timer.rate) c.cycle.ensures.chip in
    let stage = ap (λ x. x.timer.stage) c.cycle.ensures.chip in (
      (λ j. cycled m rises (count j) (chip j) (c.cycle.ensures.board j)) ∙ sym (cycled_first m rises (n - i) s b (omega arith)) ∙ c.loop.invariant.0,
      (omega arith, omega arith, omega arith),
    )

pub returns : goal.returns
returns g c =
    let m = g.B.Board in
    let s = c.loop.self.chip in
    let b = c.loop.self.board in
    let none : 0 ≡ c.args.n - c.loop.counter = omega arith in
    sym (cycled_none m c.args.rises s b) ∙ ap (λ k. cycled m c.args.rises k s b) none ∙ c.loop.invariant.0
