-- Where an instruction's operand lies.
use Rattle.std.specs.Prelude.{ℕ, ◌+◌, ◌*◌, ◌%◌}
use Rattle.board.specs.declared.reading.Reading.{Reading}
use Rattle.chip.specs.declared.state.Chip.{Chip}
use Rattle.chip.specs.declared.state.Registers.{Registers}
use Rattle.chip.specs.Memory.{read, written}
use Rattle.chip.specs.State.{with_registers, with_a, with_x}
use Rattle.opcodes.specs.declared.addressing.Addressing.{Addressing}
use Rattle.opcodes.specs.declared.addressing.Addressing.TheVariants as by
use Rattle.part.specs.Layout.{branch_target}
use Rattle.execute.specs.declared.place.Place.{Place}
use Rattle.execute.specs.declared.place.Place.TheVariants.{Accumulator, Index, Immediate, Memory}

-- two bytes, high byte first
abbrev pub word : ℕ → ℕ → ℕ
word high low = high * 256 + low

-- the place, by the two bytes after the code; PC is past the instruction, and indexed addresses are taken modulo 65,536
abbrev pub place_of : Addressing → Registers → ℕ → ℕ → Place
place_of by.Inherent r first second = Immediate first
place_of by.Accumulator r first second = Accumulator
place_of by.Index r first second = Index
place_of by.Immediate r first second = Immediate first
place_of by.Direct r first second = Memory first
place_of by.Extended r first second = Memory (word first second)
place_of by.Indexed r first second = Memory r.x
place_of by.IndexedByte r first second = Memory ((r.x + first) % 65536)
place_of by.IndexedWord r first second = Memory ((r.x + word first second) % 65536)
place_of by.Relative r first second = Memory (branch_target r.pc first)
place_of by.DirectRelative r first second = Memory first

-- the byte at a place
abbrev pub value_at : Place → Reading → Chip → ℕ
value_at Accumulator r s = s.registers.a
value_at Index r s = s.registers.x
value_at (Immediate byte) r s = byte
value_at (Memory at) r s = read r at s

-- a byte written to a place
abbrev pub stored_at : Place → ℕ → Chip → Chip
stored_at Accumulator byte s = with_registers (with_a byte s.registers) s
stored_at Index byte s = with_registers (with_x byte s.registers) s
stored_at (Immediate b) byte s = s
stored_at (Memory at) byte s = written at byte s

-- the address of a place
abbrev pub address_in : Place → ℕ
address_in Accumulator = 0
address_in Index = 0
address_in (Immediate byte) = 0
address_in (Memory at) = at
