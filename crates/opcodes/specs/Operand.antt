-- The operand of an instruction, and its text.
use Rattle.std.specs.Prelude.{ℕ, ◌+◌, ◌*◌, List, [], ◌++◌, Some, None, codes, Option}
use Rattle.opcodes.specs.declared.operation.Bit.{Bit}
use Rattle.opcodes.specs.declared.operation.Bit.TheVariants.{Bit0, Bit1, Bit2, Bit3, Bit4, Bit5, Bit6, Bit7}
use Rattle.opcodes.specs.declared.operation.Operation.{Operation}
use Rattle.opcodes.specs.declared.operation.Operation.TheVariants.{BranchIfSet, BranchIfClear, SetBit, ClearBit, Branch, Modify, Read, Store, Jump, Call, Control}
use Rattle.opcodes.specs.declared.addressing.Addressing.{Addressing}
use Rattle.opcodes.specs.declared.addressing.Addressing.TheVariants.{Inherent, Accumulator, Index, Immediate, Direct, Extended, Indexed, IndexedByte, IndexedWord, Relative, DirectRelative}
use Rattle.opcodes.specs.declared.addressing.Row.{Row}
use Rattle.opcodes.specs.declared.operand.Operand.{Operand}
use Rattle.opcodes.specs.declared.operand.Operand.TheVariants as operand
use Rattle.opcodes.specs.Hex.{hex_digit, hex_byte, hex_word}

-- the bit that an operation names
abbrev pub bit_of : Operation → Option Bit
bit_of (BranchIfSet b) = Some b
bit_of (BranchIfClear b) = Some b
bit_of (SetBit b) = Some b
bit_of (ClearBit b) = Some b
bit_of (Branch c) = None
bit_of (Modify o) = None
bit_of (Read o) = None
bit_of (Store r) = None
bit_of Jump = None
bit_of Call = None
bit_of (Control o) = None

-- two bytes as a word, the high byte first
abbrev pub word_of : ℕ → ℕ → ℕ
word_of high low = high * 256 + low

-- a byte of memory, or a bit of it
abbrev pub direct : Option Bit → ℕ → Operand
direct None byte = operand.Direct byte
direct (Some b) byte = operand.BitDirect b byte

-- the bit of a byte that is tested, and the target; the target alone where no bit is named, which no code has
abbrev pub tested : Option Bit → ℕ → ℕ → Operand
tested None byte target = operand.Target target
tested (Some b) byte target = operand.BitBranch b byte target

-- by the addressing, from the two bytes after the code and the address that a branch goes to
abbrev pub operand_in : Addressing → Option Bit → ℕ → ℕ → ℕ → Operand
operand_in Inherent b first second target = operand.Nothing
operand_in Accumulator b first second target = operand.Nothing
operand_in Index b first second target = operand.Nothing
operand_in Immediate b first second target = operand.Immediate first
operand_in Direct b first second target = direct b first
operand_in Extended b first second target = operand.Extended (word_of first second)
operand_in Indexed b first second target = operand.Indexed
operand_in IndexedByte b first second target = operand.IndexedByte first
operand_in IndexedWord b first second target = operand.IndexedWord (word_of first second)
operand_in Relative b first second target = operand.Target target
operand_in DirectRelative b first second target = tested b first target

-- the operand of a row
abbrev pub operand_of : Row → ℕ → ℕ → ℕ → Operand
operand_of row first second target = operand_in row.addressing (bit_of row.operation) first second target

-- the number of a bit
abbrev pub bit_number : Bit → ℕ
bit_number Bit0 = 0
bit_number Bit1 = 1
bit_number Bit2 = 2
bit_number Bit3 = 3
bit_number Bit4 = 4
bit_number Bit5 = 5
bit_number Bit6 = 6
bit_number Bit7 = 7

-- a bit of a byte in memory: 3,$1E
abbrev pub bit_text : Bit → ℕ → List ℕ
bit_text b byte = hex_digit (bit_number b) ++ codes "," ++ hex_byte byte

-- the text of an operand: #$05, $1E, $0310, ,X, $1E,X, $01FF,X, $0312, 3,$1E and 3,$1E,$0312
abbrev pub operand_text : Operand → List ℕ
operand_text operand.Nothing = []
operand_text (operand.Immediate byte) = codes "#" ++ hex_byte byte
operand_text (operand.Direct byte) = hex_byte byte
operand_text (operand.Extended word) = hex_word word
operand_text operand.Indexed = codes ",X"
operand_text (operand.IndexedByte byte) = hex_byte byte ++ codes ",X"
operand_text (operand.IndexedWord word) = hex_word word ++ codes ",X"
operand_text (operand.Target word) = hex_word word
operand_text (operand.BitDirect b byte) = bit_text b byte
operand_text (operand.BitBranch b byte target) = bit_text b byte ++ codes "," ++ hex_word target
