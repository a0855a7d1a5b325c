-- A row as the source's table writes it.
use Rattle.std.specs.Prelude.{Some, None, Option}
use Rattle.opcodes.specs.declared.addressing.Row.{Row}
use Rattle.opcodes.specs.declared.table.Cell.{Cell}

-- operation, addressing, length, cycles
abbrev pub cell_of : Option Row → Option Cell
cell_of None = None
cell_of (Some row) = Some (row.operation, row.addressing, row.length, row.cycles)
