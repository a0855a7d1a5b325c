use Rattle.std.proofs.Common.{◌≡◌, arith, ne_eqb}
use Rattle.opcodes.proofs.Hex.{byte_output}
use Rattle.listing.specs.Line.{length_of}
use Rattle.listing.proofs.line.Line.bytes_text.Goals as goal

pub returns-in_default : goal.returns-in_default
returns-in_default c =
    let l = c.args.self.now in
    let code = byte_output c.in_radix-in_default.result c.laid_out-in_default.result l.code (omega arith) c.in_radix-in_default.ensures c.laid_out-in_default.ensures in
    let first = byte_output c.in_radix-in_default-2.result c.laid_out-in_default-2.result l.first (omega arith) c.in_radix-in_default-2.ensures c.laid_out-in_default-2.ensures in
    let second = byte_output c.in_radix-in_default-3.result c.laid_out-in_default-3.result l.second (omega arith) c.in_radix-in_default-3.ensures c.laid_out-in_default-3.ensures in
    let shown = rw (code, first, second) at c.format-in_default.ensures.ok in
    let one : length_of l ≡ 1 → ⊥ = λ e. omega (arith, c.length.ensures) in
    let two : length_of l ≡ 2 → ⊥ = λ e. omega (arith, c.length.ensures) in
    rw (ne_eqb (length_of l) 1 one, ne_eqb (length_of l) 2 two) shown
