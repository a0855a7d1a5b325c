use Rattle.std.proofs.Common.{◌≡◌, ◌-◌}
use Rattle.machine.specs.State.{state}
use Rattle.operate.specs.Steps.{steps_more, steps_of}
use Rattle.operate.proofs.steps.make_steps.Given as goal

abbrev pub invariant-loop-made : goal.invariant-loop-made
invariant-loop-made g l =
    steps_more g.B.Board (l.most - l.made) l.made l.hash (state l.machine) ≡ steps_of g.B.Board l.most (state l.initial.machine)
