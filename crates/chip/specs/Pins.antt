-- The pins: their levels, the interrupt input, and what the chip drives.
use Rattle.std.specs.Prelude.{ℕ, ◌%◌, Bool, not, cond, ◌&&◌, ◌||◌, eqb}
use Rattle.std.specs.Int.Bits.{bit_and}
use Rattle.alu.specs.Pins.{pin_levels}
use Rattle.board.specs.declared.reading.Reading.{Reading}
use Rattle.board.specs.declared.reading.Outputs.{Outputs}
use Rattle.part.specs.Rom.{pdi, pirq, level}
use Rattle.chip.specs.declared.state.Chip.{Chip}
use Rattle.chip.specs.declared.state.Port.{Port}

-- the levels of a port's pins: an open input is 0 where its pulldown is on and 1 where it is off
abbrev pub port_pins : ℕ → ℕ → Bool → Port → ℕ
port_pins shown unconnected pulldowns_off p =
    pin_levels shown unconnected p.latch p.direction (cond pulldowns_off 255 p.pulldown)

abbrev pub pins_a : Reading → Chip → ℕ
pins_a r s = port_pins r.level_a r.open_a (pdi s.rom) s.ports.a

-- port B has six pins
abbrev pub pins_b : Reading → Chip → ℕ
pins_b r s = port_pins r.level_b r.open_b (pdi s.rom) s.ports.b % 64

-- the interrupt input is active: the IRQ pin is 0, or with PIRQ one of PA0 to PA3 is 1
abbrev pub active : Reading → Chip → Bool
active r s = eqb r.irq 0 || (pirq s.rom && not (eqb (pins_a r s % 16) 0))

-- IRQF: the latch, or under LEVEL the last sample being active
abbrev pub requested : Chip → Bool
requested s = s.interrupt.latch || (level s.rom && s.interrupt.active)

-- directions, and latches where they are driven
abbrev pub outputs : Chip → Outputs
outputs s = record {
  direction_a = s.ports.a.direction;
  driven_a = bit_and s.ports.a.latch s.ports.a.direction;
  direction_b = s.ports.b.direction;
  driven_b = bit_and s.ports.b.latch s.ports.b.direction;
}
