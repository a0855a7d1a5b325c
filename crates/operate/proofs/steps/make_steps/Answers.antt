use Rattle.std.proofs.Common.{◌≡◌, ◌+◌, ◌-◌, Ok, Err, sym, ◌∙◌, arith}
use Rattle.machine.specs.State.{state}
use Rattle.operate.specs.Steps.{steps_more}
use Rattle.operate.proofs.InARow.{first, none}
use Rattle.operate.proofs.steps.make_steps.Goals as goal

pub returns-in-Err : goal.returns-in-Err
returns-in-Err g c =
    let l = c.loop-made in
    sym (first g.B.Board l.made l.hash (state l.machine) (c.args.most - l.made) (Err c.in-Err.refusal) (state c.step.new.self) (omega arith) c.in-Err.ensures) ∙ l.invariant

pub loop-made-preserved : goal.loop-made-preserved
loop-made-preserved g c =
    let m = g.B.Board in
    let l = c.loop-made in
    let t = state c.step.new.self in
    let k : c.args.most - (l.made + 1) ≡ c.args.most - l.made - 1 = omega arith in
    (λ i. steps_more m (k i) (l.made + 1) (c.hash_step-hash.ensures i) t)
    ∙ sym (first m l.made l.hash (state l.machine) (c.args.most - l.made) (Ok c.in-Ok.answer) t (omega arith) c.in-Ok.ensures) ∙ l.invariant

pub returns : goal.returns
returns g c =
    let m = g.B.Board in
    let l = c.loop-made in
    let s = state l.machine in
    let end : c.args.most ≡ l.made = omega arith in
    let left : 0 ≡ c.args.most - l.made = omega arith in
    sym (none m c.args.most l.hash s) ∙ (λ i. steps_more m (left i) (end i) l.hash s) ∙ l.invariant
