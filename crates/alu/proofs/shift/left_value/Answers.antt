use Rattle.std.proofs.Common.{rules}
use Rattle.alu.proofs.Shifts.{left_is}
use Rattle.alu.proofs.shift.left_value.Goals as goal

pub returns : goal.returns
returns c = left_is c.args.byte c.args.low c.rotate_left.result c.from.result (search rules) c.rotate_left.ensures c.from.ensures
