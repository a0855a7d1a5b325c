-- All that a machine holds, and the line of text that says it.
use Rattle.std.specs.Prelude.{ℕ, ◌+◌, List, ◌++◌, codes, decimal}
use Rattle.alu.specs.Flags.{condition_byte}
use Rattle.bits.specs.Bits.{flag}
use Rattle.board.specs.declared.contract.Board.{Ghosts}
use Rattle.board.specs.declared.reading.Reading.{Reading}
use Rattle.chip.specs.declared.state.Interrupt.{Interrupt}
use Rattle.chip.specs.declared.state.Ports.{Ports}
use Rattle.chip.specs.declared.state.Registers.{Registers}
use Rattle.chip.specs.State.{mode_number}
use Rattle.machine.specs.State.{State}
use Rattle.part.specs.declared.rom.Rom.{Rom}
use Rattle.text.specs.Fnv.{fnv_with, fnv_from, fnv_of}
use Rattle.text.specs.HexText.{byte_text, word_text, quad_text, bytes_text}
use Rattle.timer.specs.Control.{control}
use Rattle.operate.specs.declared.snapshot.Snapshot.{Snapshot}

-- the hash of EPROM, option byte and vectors
abbrev pub image_hash : Rom → ℕ
image_hash rom = fnv_from (fnv_with (fnv_of rom.eprom) rom.options) rom.vectors

-- IRQE in bit 7, the last sample in bit 1, the latch in bit 0
abbrev pub interrupt_byte : Interrupt → ℕ
interrupt_byte i = flag i.enable 128 + flag i.active 2 + flag i.latch 1

abbrev pub snapshot_of : {B : Type 0} → Ghosts B → State B → Snapshot
snapshot_of m s = record {
  registers = s.chip.registers;
  ram = s.chip.ram;
  image = image_hash s.chip.rom;
  ports = s.chip.ports;
  mode = s.chip.mode;
  timer = s.chip.timer;
  interrupt = s.chip.interrupt;
  total = s.total;
  shown = m.shows s.board 0;
}

abbrev pub ports_text : Ports → List ℕ
ports_text p =
    codes "LA=" ++ (byte_text p.a.latch ++ (codes " DA=" ++ (byte_text p.a.direction ++ (codes " PA=" ++ (byte_text p.a.pulldown
    ++ (codes " LB=" ++ (byte_text p.b.latch ++ (codes " DB=" ++ (byte_text p.b.direction ++ (codes " PB=" ++ byte_text p.b.pulldown))))))))))

-- numbers with commas between
abbrev pub reading_text : Reading → List ℕ
reading_text r =
    decimal r.level_a ++ (codes "," ++ (decimal r.open_a ++ (codes "," ++ (decimal r.level_b
    ++ (codes "," ++ (decimal r.open_b ++ (codes "," ++ decimal r.irq)))))))

abbrev pub cpu_text : Registers → List ℕ
cpu_text r =
    codes "A=" ++ (byte_text r.a ++ (codes " X=" ++ (byte_text r.x ++ (codes " SP=" ++ (byte_text r.sp
    ++ (codes " PC=" ++ (word_text r.pc ++ (codes " CC=" ++ byte_text (condition_byte r.flags)))))))))

abbrev pub memory_text : Snapshot → List ℕ
memory_text x = codes "RAM=" ++ (bytes_text x.ram ++ (codes " IMG=" ++ quad_text x.image))

abbrev pub clock_text : Snapshot → List ℕ
clock_text x =
    codes "MODE=" ++ (decimal (mode_number x.mode) ++ (codes " TSCR=" ++ (byte_text (control x.timer) ++ (codes " IRQ=" ++ (byte_text (interrupt_byte x.interrupt)
    ++ (codes " T=" ++ (decimal x.timer.t ++ (codes " TOTAL=" ++ (decimal x.total ++ (codes " STAGE=" ++ decimal x.timer.stage))))))))))

abbrev pub snapshot_text : Snapshot → List ℕ
snapshot_text x =
    codes "state " ++ (cpu_text x.registers ++ (codes " " ++ (memory_text x ++ (codes " " ++ (ports_text x.ports ++ (codes " " ++ (clock_text x
    ++ (codes " SHOW=" ++ reading_text x.shown))))))))
