use Rattle.std.proofs.Common.{◌≡◌, ap, ◌∙◌, arith}
use mathlib.Core.Path.{subst⁻¹}
use Rattle.chip.specs.Pins.{outputs}
use Rattle.cycles.specs.Cycles.{cycled}
use Rattle.cycles.proofs.Cycles.{Leaves, cycled_leaves}
use Rattle.step.specs.Action.{cost_of, raises_clock}
use Rattle.step.specs.Sound.{Sound}
use Rattle.step.specs.Step.{informed, closed}
use Rattle.step.proofs.Acting.{acting_sound}
use Rattle.step.proofs.Passing.{passing, closing}
use Rattle.step.proofs.Working.{works}
use Rattle.step.proofs.step.work.Goals as goal

pub pass_cycles-requires : goal.pass_cycles-requires
pass_cycles-requires g c =
    let sound : Sound c.act.new.chip = subst⁻¹ Sound c.act.ensures (acting_sound c.args.action.now c.args.reading.now c.args.fitted.now.chip c.requires.1.0 c.requires.0) in
    let cost = c.cost-cost.ensures in
    ((sound.2.0, sound.2.1, omega arith), omega arith)

pub returns : goal.returns
returns g c =
    let m = g.B.Board in
    let a = c.args.action.now in
    let r = c.args.reading.now in
    let s = c.args.fitted.now.chip in
    let b = c.args.fitted.now.board in
    let rises = c.raises_clock-rises.result in
    let n = c.cost-cost.result in
    let acting = c.act.new.chip in
    let told = c.tell_altered.new.board in
    let u = c.pass_cycles.new.self.chip in
    let v = c.pass_cycles.new.self.board in
    let told_is : told ≡ informed m (outputs s) (outputs acting) b = c.tell_altered.ensures ∙ (λ j. informed m (c.outputs-before.ensures j) (c.outputs.ensures j) b) in
    let passed : (u, v) ≡ cycled m (raises_clock a s.mode) (cost_of a) acting told = c.pass_cycles.ensures ∙ (λ j. cycled m (c.raises_clock-rises.ensures j) (c.cost-cost.ensures j) acting told) in
    let all = works m a r s b acting told (u, v) c.act.ensures told_is passed in
    let ends = c.close.ensures ∙ ap (λ k. closed m k u v) c.reset_due-reset.ensures in
    let sound : Sound acting = subst⁻¹ Sound c.act.ensures (acting_sound a r s c.requires.1.0 c.requires.0) in
    let leaves : Leaves rises n acting u = subst⁻¹ (Leaves rises n acting) (ap (λ x. x.0) c.pass_cycles.ensures) (cycled_leaves m rises n acting told) in
    let cost = c.cost-cost.ensures in
    record {
      is = (λ j. (record { kind = c.kind.ensures j; cost = c.cost-cost.ensures j; reset = c.reset_due-reset.ensures j }, ends j)) ∙ all;
      sound = subst⁻¹ Sound (ap (λ p. p.0) ends) (closing a u (passing rises n acting u (omega arith) sound leaves));
    }
