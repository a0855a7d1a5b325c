-- The instruction at the program counter.
use Rattle.std.specs.Prelude.{ℕ, ◌+◌, ◌%◌, Some, None, Option}
use Rattle.board.specs.declared.reading.Reading.{Reading}
use Rattle.chip.specs.declared.state.Chip.{Chip}
use Rattle.chip.specs.Memory.{read}
use Rattle.opcodes.specs.declared.addressing.Row.{Row}
use Rattle.opcodes.specs.Map.{row_of}
use Rattle.part.specs.Layout.{address_space}
use Rattle.execute.specs.declared.fetch.Fetched.{Fetched}
use Rattle.execute.specs.Entry.{at}
use Rattle.execute.specs.Perform.{performed}

-- the code at the program counter and the two bytes after it
abbrev pub fetched : Reading → Chip → Fetched
fetched r s = record { code = read r s.registers.pc s; first = read r (s.registers.pc + 1) s; second = read r (s.registers.pc + 2) s }

-- the program counter past an instruction of this row
abbrev pub past : Row → Chip → Chip
past row s = at ((s.registers.pc + row.length) % address_space) s

-- the instruction of a row, with the two bytes after its code
abbrev pub executed_as : Row → ℕ → ℕ → Reading → Chip → Chip
executed_as row first second r s = performed row.operation row.addressing first second r (past row s)

-- the instruction of a code that has one
abbrev pub executed_by : Option Row → Fetched → Reading → Chip → Chip
executed_by None f r s = s
executed_by (Some row) f r s = executed_as row f.first f.second r s

-- the instruction at the program counter
unfoldable pub executed : Reading → Chip → Chip
executed r s = executed_by (row_of (fetched r s).code) (fetched r s) r s
