use Rattle.std.proofs.Common.{◌≡◌, rules}
use Rattle.alu.specs.Pins.{pin_levels}
use Rattle.alu.proofs.BitLaws.{pin_bit}
use Rattle.alu.proofs.pins.pin_levels.Goals as goal

pub returns : goal.returns
returns c =
    let a = c.args in
    let is : c.choose-2.result ≡ pin_levels a.level a.«open» a.latch a.direction a.high = search rules in
    record { is = is; each = pin_bit a.level a.«open» a.latch a.direction a.high c.choose-2.result (search rules) (search rules) is }
