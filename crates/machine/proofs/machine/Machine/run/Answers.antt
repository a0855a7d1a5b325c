use Rattle.std.proofs.Common.{◌∙◌, arith}
use Rattle.machine.specs.declared.answer.RunEnd.TheVariants.{Reached, Stuck}
use Rattle.machine.specs.State.{state}
use Rattle.machine.proofs.Running.{raised, run_on, run_stuck, run_reached, too_far, no_image, ran}
use Rattle.machine.proofs.machine.Machine.run.Goals as goal

pub returns-then-target-gt-TOTAL_LIMIT : goal.returns-then-target-gt-TOTAL_LIMIT
returns-then-target-gt-TOTAL_LIMIT g c = too_far g.B.Board c.args.target (state c.args.self.now) c.if-target-gt-TOTAL_LIMIT.true

pub returns-then-not-self : goal.returns-then-not-self
returns-then-not-self g c = no_image g.B.Board c.args.target (state c.args.self.now) c.if-target-gt-TOTAL_LIMIT.false c.if-not-self.true

pub loop-self-smaller : goal.loop-self-smaller
loop-self-smaller g c =
    let up = raised g.B.Board c.args.target (state c.loop-self.self) (state c.step.new.self) c.in-Ok.field-0 c.in-Ok.ensures in
    let below = c.loop-self-test.true in
    omega arith

pub loop-self-preserved : goal.loop-self-preserved
loop-self-preserved g c =
    let m = g.B.Board in
    let s = state c.loop-self.self in
    let t = state c.step.new.self in
    let up = raised m c.args.target s t c.in-Ok.field-0 c.in-Ok.ensures in
    (omega arith, c.loop-self.invariant.1 ∙ run_on m c.args.target s t c.in-Ok.field-0 c.loop-self.steps c.loop-self-test.true c.in-Ok.ensures)

pub returns-in-Err : goal.returns-in-Err
returns-in-Err g c =
    let m = g.B.Board in
    let s = state c.loop-self.self in
    let t = state c.step.new.self in
    let stuck = run_stuck m c.args.target s t c.in-Err.field-0 c.loop-self.steps c.loop-self-test.true c.in-Err.ensures in
    ran m c.args.target (state c.args.self.now) (record { steps = c.loop-self.steps; end = Stuck }, t) c.if-target-gt-TOTAL_LIMIT.false c.if-not-self.false (c.loop-self.invariant.1 ∙ stuck)

pub returns : goal.returns
returns g c =
    let m = g.B.Board in
    let s = state c.loop-self.self in
    let reached = run_reached m c.args.target s c.loop-self.steps c.loop-self-test.false in
    ran m c.args.target (state c.args.self.now) (record { steps = c.loop-self.steps; end = Reached }, s) c.if-target-gt-TOTAL_LIMIT.false c.if-not-self.false (c.loop-self.invariant.1 ∙ reached)
