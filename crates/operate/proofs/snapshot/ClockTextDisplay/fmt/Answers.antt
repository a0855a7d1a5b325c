use Rattle.std.proofs.Common.{rules, arith}
use Rattle.text.proofs.HexText.{byte_output}
use Rattle.operate.proofs.snapshot.ClockTextDisplay.fmt.Goals as goal

pub returns-clause-writes : goal.returns-clause-writes
returns-clause-writes g c =
    let e1 = byte_output c.in_radix.result c.laid_out.result c.control.result (omega arith) c.in_radix.ensures c.laid_out.ensures in
    let e2 = byte_output c.in_radix-2.result c.laid_out-2.result c.interrupt_byte.result (omega arith) c.in_radix-2.ensures c.laid_out-2.ensures in
    rw (← c.control.ensures, ← c.interrupt_byte.ensures) (search (rules, e1, e2))
