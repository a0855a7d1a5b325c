use Rattle.std.proofs.Common.{rules, arith}
use Rattle.text.proofs.HexText.{byte_output}
use Rattle.operate.proofs.snapshot.PortsTextDisplay.fmt.Goals as goal

pub returns-clause-writes : goal.returns-clause-writes
returns-clause-writes g c =
    let p = c.args.self.now.0 in
    let e1 = byte_output c.in_radix.result c.laid_out.result p.a.latch (omega arith) c.in_radix.ensures c.laid_out.ensures in
    let e2 = byte_output c.in_radix-2.result c.laid_out-2.result p.a.direction (omega arith) c.in_radix-2.ensures c.laid_out-2.ensures in
    let e3 = byte_output c.in_radix-3.result c.laid_out-3.result p.a.pulldown (omega arith) c.in_radix-3.ensures c.laid_out-3.ensures in
    let e4 = byte_output c.in_radix-4.result c.laid_out-4.result p.b.latch (omega arith) c.in_radix-4.ensures c.laid_out-4.ensures in
    let e5 = byte_output c.in_radix-5.result c.laid_out-5.result p.b.direction (omega arith) c.in_radix-5.ensures c.laid_out-5.ensures in
    let e6 = byte_output c.in_radix-6.result c.laid_out-6.result p.b.pulldown (omega arith) c.in_radix-6.ensures c.laid_out-6.ensures in
    search (rules, e1, e2, e3, e4, e5, e6)
