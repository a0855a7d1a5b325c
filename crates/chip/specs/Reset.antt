-- The chip as it is made, and its reset.
use Rattle.std.specs.Prelude.{true, false, replicate}
use Rattle.alu.specs.Flags.{with_i}
use Rattle.part.specs.declared.layout.Vector.TheVariants.{Reset as ResetVector}
use Rattle.part.specs.Rom.{blank_rom, vector_in}
use Rattle.timer.specs.Control.{zeroed, at_reset}
use Rattle.chip.specs.declared.state.Chip.{Chip}
use Rattle.chip.specs.declared.state.Port.{Port}
use Rattle.chip.specs.declared.state.Mode.TheVariants.{Running}

abbrev pub idle_port : Port
idle_port = record { latch = 0; direction = 0; pulldown = 0 }

-- running, SP $FF and all else 0
abbrev pub fresh : Chip
fresh = record {
  registers = record { a = 0; x = 0; sp = 255; pc = 0; flags = record { h = false; i = false; n = false; z = false; c = false } };
  ports = record { a = idle_port; b = idle_port };
  timer = zeroed;
  interrupt = record { enable = false; latch = false; active = false };
  mode = Running;
  ram = replicate 64 0;
  rom = blank_rom;
}

-- directions and pulldown bits 0; the latch stays
abbrev pub port_reset : Port → Port
port_reset p = record { latch = p.latch; direction = 0; pulldown = 0 }

-- SP $FF, I set, PC from the vector, ports and timer reset, IRQE 1, interrupt latch 0, running; the rest stays
abbrev pub reset : Chip → Chip
reset s = record {
  registers = record { a = s.registers.a; x = s.registers.x; sp = 255; pc = vector_in ResetVector s.rom; flags = with_i s.registers.flags true };
  ports = record { a = port_reset s.ports.a; b = port_reset s.ports.b };
  timer = at_reset;
  interrupt = record { enable = true; latch = false; active = s.interrupt.active };
  mode = Running;
  ram = s.ram;
  rom = s.rom;
}
