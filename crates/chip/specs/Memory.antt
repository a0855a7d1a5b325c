-- What a read of an address answers, and what a write does.
use Rattle.std.specs.Prelude.{ℕ, ◌+◌, ◌%◌, not, cond, ◌&&◌, eqb, get_or, set}
use Rattle.bits.specs.Bits.{bit_at, flag}
use Rattle.board.specs.declared.reading.Reading.{Reading}
use Rattle.timer.specs.declared.state.Timer.{Timer}
use Rattle.timer.specs.Control.{control, control_written, counter, serviced}
use Rattle.chip.specs.declared.map.Location.{Location}
use Rattle.chip.specs.declared.map.Location.TheVariants.{PortA, PortB, DirectionA, DirectionB, TimerControl, TimerCounter, InterruptControl, PulldownA, PulldownB, Ram, Eprom, Service, Options, Vectors, Nothing}
use Rattle.chip.specs.declared.state.Chip.{Chip}
use Rattle.chip.specs.declared.state.Interrupt.{Interrupt}
use Rattle.chip.specs.Map.{location_of}
use Rattle.chip.specs.Pins.{pins_a, pins_b, requested}
use Rattle.chip.specs.State.{with_timer, with_interrupt, with_ram, with_port_a, with_port_b, with_latch, with_direction, with_pulldown}

-- $000A: IRQE in bit 7, IRQF in bit 3
abbrev pub interrupt_control : Chip → ℕ
interrupt_control s = flag s.interrupt.enable 128 + flag (requested s) 8

-- the byte at a place, with this reading at the pins; what is not named reads 0
abbrev pub read_at : Reading → Location → Chip → ℕ
read_at r PortA s = pins_a r s
read_at r PortB s = pins_b r s
read_at r DirectionA s = s.ports.a.direction
read_at r DirectionB s = s.ports.b.direction
read_at r TimerControl s = control s.timer
read_at r TimerCounter s = counter s.timer
read_at r InterruptControl s = interrupt_control s
read_at r PulldownA s = 0
read_at r PulldownB s = 0
read_at r (Ram k) s = get_or s.ram k 0
read_at r (Eprom k) s = get_or s.rom.eprom k 0
read_at r Service s = 0
read_at r Options s = s.rom.options
read_at r (Vectors k) s = get_or s.rom.vectors k 0
read_at r Nothing s = 0

-- a byte written to $000A: IRQE is taken, bit 1 clears the latch
abbrev pub interrupt_written : ℕ → Interrupt → Interrupt
interrupt_written byte i = record { enable = bit_at byte 7; latch = i.latch && not (bit_at byte 1); active = i.active }

-- a byte written to the watchdog's place: a service where bit 0 is 0
abbrev pub service_written : ℕ → Timer → Timer
service_written byte m = cond (eqb (byte % 2) 0) (serviced m) m

-- a byte written to a place; what comes from the image and what is not named ignores it, and port B has six bits
abbrev pub written_at : Location → ℕ → Chip → Chip
written_at PortA byte s = with_port_a (with_latch byte s.ports.a) s
written_at PortB byte s = with_port_b (with_latch (byte % 64) s.ports.b) s
written_at DirectionA byte s = with_port_a (with_direction byte s.ports.a) s
written_at DirectionB byte s = with_port_b (with_direction (byte % 64) s.ports.b) s
written_at TimerControl byte s = with_timer (control_written byte s.timer) s
written_at TimerCounter byte s = s
written_at InterruptControl byte s = with_interrupt (interrupt_written byte s.interrupt) s
written_at PulldownA byte s = with_port_a (with_pulldown byte s.ports.a) s
written_at PulldownB byte s = with_port_b (with_pulldown (byte % 64) s.ports.b) s
written_at (Ram k) byte s = with_ram (set s.ram k byte) s
written_at (Eprom k) byte s = s
written_at Service byte s = with_timer (service_written byte s.timer) s
written_at Options byte s = s
written_at (Vectors k) byte s = s
written_at Nothing byte s = s

abbrev pub read : Reading → ℕ → Chip → ℕ
read r address s = read_at r (location_of address) s

abbrev pub written : ℕ → ℕ → Chip → Chip
written address byte s = written_at (location_of address) byte s
