use Rattle.std.proofs.Common.{◌≡◌, ◌+◌, ◌-◌, ◌≤◌, leb, get_or, sym, ap, ◌∙◌, arith}
use Rattle.std.proofs.lemmas.Bool.{and_parts, leb-true}
use Rattle.execute.proofs.Fetching.{in_eprom}
use Rattle.execute.proofs.fetch.fetch.Goals as goal

pub returns-then-between : goal.returns-then-between
returns-then-between c =
    let s = c.args.chip.now in
    let r = c.args.reading.now in
    let pc = s.registers.pc in
    let both = and_parts (leb 768 pc) (leb pc 1997) (sym c.if-between.ensures) in
    let low : 768 ≤ pc = leb-true 768 pc both.0 in
    let high : pc ≤ 1997 = leb-true pc 1997 both.1 in
    let one : pc + 1 - 768 ≡ pc - 768 + 1 = omega arith in
    let two : pc + 2 - 768 ≡ pc - 768 + 2 = omega arith in
    let code = in_eprom r s pc low (omega arith) in
    let first = in_eprom r s (pc + 1) (omega arith) (omega arith) ∙ ap (λ k. get_or s.rom.eprom k 0) one in
    let second = in_eprom r s (pc + 2) (omega arith) (omega arith) ∙ ap (λ k. get_or s.rom.eprom k 0) two in
    sym (λ i. record { code = code i; first = first i; second = second i })
