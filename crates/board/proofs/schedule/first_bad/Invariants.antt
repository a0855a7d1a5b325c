use Rattle.std.proofs.Common.{◌≡◌, ◌≤◌, drop}
use Rattle.board.specs.Schedule.{bad_from, cycle_limit}
use Rattle.board.proofs.schedule.first_bad.Given as goal

abbrev pub invariant-loop-i : goal.invariant-loop-i
invariant-loop-i l = (l.limit ≤ cycle_limit) × (bad_from 0 0 1 l.entries ≡ bad_from l.i l.low l.limit (drop l.i l.entries))
