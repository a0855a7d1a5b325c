use Rattle.std.proofs.Common.{rules, arith}
use Rattle.text.proofs.HexText.{quad_output}
use Rattle.operate.proofs.snapshot.MemoryTextDisplay.fmt.Goals as goal

pub returns-clause-writes : goal.returns-clause-writes
returns-clause-writes g c =
    let e1 = quad_output c.in_radix.result c.laid_out.result c.args.self.now.0.image (omega arith) c.in_radix.ensures c.laid_out.ensures in
    search (rules, e1)
