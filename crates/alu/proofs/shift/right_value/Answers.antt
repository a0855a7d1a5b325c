use Rattle.std.proofs.Common.{rules}
use Rattle.alu.proofs.Shifts.{right_is}
use Rattle.alu.proofs.shift.right_value.Goals as goal

pub returns : goal.returns
returns c =
    right_is c.args.byte c.args.high c.rotate_right.result c.from.result c.rotate_right-2.result (search rules)
    c.rotate_right.ensures c.from.ensures c.rotate_right-2.ensures
