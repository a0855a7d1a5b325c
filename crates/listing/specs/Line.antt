-- One line of a listing: what stands at an address.
use Rattle.std.specs.Prelude.{ℕ, ◌+◌, ◌%◌, cond, List, Some, None, Option, ◌==◌, slice_index}
use Rattle.opcodes.specs.declared.addressing.Row.{Row}
use Rattle.opcodes.specs.Map.{row_of}
use Rattle.opcodes.specs.declared.operand.Operand.{Operand}
use Rattle.opcodes.specs.declared.operand.Operand.TheVariants.{Nothing}
use Rattle.opcodes.specs.Operand.{operand_of}
use Rattle.part.specs.Layout.{address_space, branch_target}
use Rattle.listing.specs.declared.line.Line.{Line}

-- the byte at this address, modulo the address space; past the end of the image all bytes are 0
abbrev pub byte_at : List ℕ → ℕ → ℕ
byte_at image address = slice_index image (address % address_space)

abbrev pub line_at : List ℕ → ℕ → Line
line_at image address =
    record {
      address = address;
      code = byte_at image address;
      first = byte_at image (address + 1);
      second = byte_at image (address + 2);
      row = row_of (byte_at image address);
    }

abbrev pub row_length : Option Row → ℕ
row_length (Some r) = r.length
row_length None = 1

-- how many bytes belong to the line: a code without an instruction stands alone
abbrev pub length_of : Line → ℕ
length_of l = row_length l.row

-- where a branch of this row goes: its offset is the last byte of the instruction
abbrev pub target_of : Line → Row → ℕ
target_of l r = branch_target (l.address + r.length) (cond (r.length == 3) l.second l.first)

abbrev pub row_operand : Line → Option Row → Operand
row_operand l (Some r) = operand_of r l.first l.second (target_of l r)
row_operand l None = Nothing

-- the operand of the line's instruction
abbrev pub operand_of_line : Line → Operand
operand_of_line l = row_operand l l.row
