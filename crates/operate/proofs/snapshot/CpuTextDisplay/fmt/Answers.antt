use Rattle.std.proofs.Common.{rules, arith}
use Rattle.text.proofs.HexText.{byte_output, word_output}
use Rattle.operate.proofs.snapshot.CpuTextDisplay.fmt.Goals as goal

pub returns-clause-writes : goal.returns-clause-writes
returns-clause-writes g c =
    let p = c.args.self.now.0 in
    let e1 = byte_output c.in_radix.result c.laid_out.result p.a (omega arith) c.in_radix.ensures c.laid_out.ensures in
    let e2 = byte_output c.in_radix-2.result c.laid_out-2.result p.x (omega arith) c.in_radix-2.ensures c.laid_out-2.ensures in
    let e3 = byte_output c.in_radix-3.result c.laid_out-3.result p.sp (omega arith) c.in_radix-3.ensures c.laid_out-3.ensures in
    let e4 = word_output c.in_radix-4.result c.laid_out-4.result p.pc (omega arith) c.in_radix-4.ensures c.laid_out-4.ensures in
    let e5 = byte_output c.in_radix-5.result c.laid_out-5.result c.condition_byte-condition.result (omega arith) c.in_radix-5.ensures c.laid_out-5.ensures in
    search (rules, e1, e2, e3, e4, e5)
