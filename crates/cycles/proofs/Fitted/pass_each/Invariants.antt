use Rattle.std.proofs.Common.{◌≡◌, ◌-◌}
use Rattle.cycles.specs.Cycles.{cycled, Room}
use Rattle.cycles.proofs.Fitted.pass_each.Given as goal

abbrev pub invariant-loop : goal.invariant-loop
invariant-loop g l =
    (cycled g.B.Board l.rises (l.n - l.counter) l.self.chip l.self.board ≡ cycled g.B.Board l.rises l.n l.initial.self.chip l.initial.self.board)
    × Room l.self.chip.timer (l.n - l.counter)
