-- The stack, which lies in RAM and goes round at both ends.
use Rattle.std.specs.Prelude.{ℕ, ◌+◌, ◌%◌, get_or, set}
use Rattle.part.specs.Layout.{ram_first}
use Rattle.chip.specs.declared.state.Chip.{Chip}
use Rattle.chip.specs.State.{with_registers, with_ram, with_sp}

-- the stack pointer one lower, and one higher
abbrev pub lowered : ℕ → ℕ
lowered sp = ram_first + (sp % 64 + 63) % 64

abbrev pub raised : ℕ → ℕ
raised sp = ram_first + (sp % 64 + 1) % 64

-- a push writes, then lowers
abbrev pub pushed : ℕ → Chip → Chip
pushed byte s = with_ram (set s.ram (s.registers.sp % 64) byte) (with_registers (with_sp (lowered s.registers.sp) s.registers) s)

-- a pull raises, then reads
abbrev pub pulled : Chip → Chip
pulled s = with_registers (with_sp (raised s.registers.sp) s.registers) s

abbrev pub pulled_byte : Chip → ℕ
pulled_byte s = get_or s.ram (raised s.registers.sp % 64) 0
