use Rattle.std.proofs.Common.{◌≡◌, ◌-◌, ◌≤◌}
use Rattle.machine.specs.State.{state}
use Rattle.machine.specs.Run.{run_to}
use Rattle.machine.proofs.Running.{after}
use Rattle.machine.proofs.machine.Machine.run.Given as goal

abbrev pub invariant-loop-self : goal.invariant-loop-self
invariant-loop-self g l =
    (l.steps ≤ l.self.total)
    × (after 0 (run_to g.B.Board l.target (state l.initial.self)) ≡ after l.steps (run_to g.B.Board l.target (state l.self)))

abbrev pub decreases-loop-self : goal.decreases-loop-self
decreases-loop-self g l = l.target - l.self.total
