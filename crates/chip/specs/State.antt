-- The published numbers of the modes, and the chip's parts, replaced one at a time.
use Rattle.std.specs.Prelude.{ℕ, Bool, List}
use Rattle.alu.specs.declared.flags.Flags.{Flags}
use Rattle.part.specs.declared.rom.Rom.{Rom}
use Rattle.timer.specs.declared.state.Timer.{Timer}
use Rattle.chip.specs.declared.state.Chip.{Chip}
use Rattle.chip.specs.declared.state.Registers.{Registers}
use Rattle.chip.specs.declared.state.Port.{Port}
use Rattle.chip.specs.declared.state.Ports.{Ports}
use Rattle.chip.specs.declared.state.Interrupt.{Interrupt}
use Rattle.chip.specs.declared.state.Mode.{Mode}
use Rattle.chip.specs.declared.state.Mode.TheVariants.{Running, Waiting, Stopped}

abbrev pub mode_number : Mode → ℕ
mode_number Running = 1
mode_number Waiting = 2
mode_number Stopped = 3

abbrev pub with_registers : Registers → Chip → Chip
with_registers r s = record { registers = r; ports = s.ports; timer = s.timer; interrupt = s.interrupt; mode = s.mode; ram = s.ram; rom = s.rom }

abbrev pub with_ports : Ports → Chip → Chip
with_ports p s = record { registers = s.registers; ports = p; timer = s.timer; interrupt = s.interrupt; mode = s.mode; ram = s.ram; rom = s.rom }

abbrev pub with_timer : Timer → Chip → Chip
with_timer m s = record { registers = s.registers; ports = s.ports; timer = m; interrupt = s.interrupt; mode = s.mode; ram = s.ram; rom = s.rom }

abbrev pub with_interrupt : Interrupt → Chip → Chip
with_interrupt i s = record { registers = s.registers; ports = s.ports; timer = s.timer; interrupt = i; mode = s.mode; ram = s.ram; rom = s.rom }

abbrev pub with_mode : Mode → Chip → Chip
with_mode k s = record { registers = s.registers; ports = s.ports; timer = s.timer; interrupt = s.interrupt; mode = k; ram = s.ram; rom = s.rom }

abbrev pub with_ram : List ℕ → Chip → Chip
with_ram bytes s = record { registers = s.registers; ports = s.ports; timer = s.timer; interrupt = s.interrupt; mode = s.mode; ram = bytes; rom = s.rom }

abbrev pub with_rom : Rom → Chip → Chip
with_rom image s = record { registers = s.registers; ports = s.ports; timer = s.timer; interrupt = s.interrupt; mode = s.mode; ram = s.ram; rom = image }

abbrev pub with_port_a : Port → Chip → Chip
with_port_a p s = with_ports (record { a = p; b = s.ports.b }) s

abbrev pub with_port_b : Port → Chip → Chip
with_port_b p s = with_ports (record { a = s.ports.a; b = p }) s

abbrev pub with_latch : ℕ → Port → Port
with_latch byte p = record { latch = byte; direction = p.direction; pulldown = p.pulldown }

abbrev pub with_direction : ℕ → Port → Port
with_direction byte p = record { latch = p.latch; direction = byte; pulldown = p.pulldown }

abbrev pub with_pulldown : ℕ → Port → Port
with_pulldown byte p = record { latch = p.latch; direction = p.direction; pulldown = byte }

abbrev pub with_a : ℕ → Registers → Registers
with_a byte r = record { a = byte; x = r.x; sp = r.sp; pc = r.pc; flags = r.flags }

abbrev pub with_x : ℕ → Registers → Registers
with_x byte r = record { a = r.a; x = byte; sp = r.sp; pc = r.pc; flags = r.flags }

abbrev pub with_sp : ℕ → Registers → Registers
with_sp sp r = record { a = r.a; x = r.x; sp = sp; pc = r.pc; flags = r.flags }

abbrev pub with_pc : ℕ → Registers → Registers
with_pc pc r = record { a = r.a; x = r.x; sp = r.sp; pc = pc; flags = r.flags }

abbrev pub with_flags : Flags → Registers → Registers
with_flags f r = record { a = r.a; x = r.x; sp = r.sp; pc = r.pc; flags = f }

abbrev pub with_enable : Bool → Interrupt → Interrupt
with_enable enable i = record { enable = enable; latch = i.latch; active = i.active }

abbrev pub with_edge : Bool → Interrupt → Interrupt
with_edge latch i = record { enable = i.enable; latch = latch; active = i.active }

abbrev pub with_active : Bool → Interrupt → Interrupt
with_active active i = record { enable = i.enable; latch = i.latch; active = active }
