-- The opcode map of the HC05: what each code is, by its high digit (the column) and its low digit (the line).
use Rattle.std.specs.Prelude.{ℕ, ◌/◌, ◌%◌, cond, List, [], ◌∷◌, map, Some, None, Option, ◌==◌, slice_index_or}
use Rattle.opcodes.specs.declared.operation.Bit.{Bit}
use Rattle.opcodes.specs.declared.operation.Bit.TheVariants.{Bit0, Bit1, Bit2, Bit3, Bit4, Bit5, Bit6, Bit7}
use Rattle.opcodes.specs.declared.operation.Condition.TheVariants.{Always, Never, Higher, LowerOrSame, CarryClear, CarrySet, NotEqual, Equal, HalfCarryClear, HalfCarrySet, Plus, Minus, MaskClear, MaskSet, IrqLow, IrqHigh}
use Rattle.opcodes.specs.declared.operation.ReadModifyWrite.{ReadModifyWrite}
use Rattle.opcodes.specs.declared.operation.ReadModifyWrite.TheVariants.{Neg, Com, Lsr, Ror, Asr, Lsl, Rol, Dec, Inc, Tst, Clr}
use Rattle.opcodes.specs.declared.operation.RegisterMemory.{RegisterMemory}
use Rattle.opcodes.specs.declared.operation.RegisterMemory.TheVariants.{Sub, Cmp, Sbc, Cpx, And, Bit as BitTest, Lda, Eor, Adc, Ora, Add, Ldx}
use Rattle.opcodes.specs.declared.operation.Register.TheVariants.{Accumulator as A-register, Index as X-register}
use Rattle.opcodes.specs.declared.operation.Control.{Control as ControlName}
use Rattle.opcodes.specs.declared.operation.Control.TheVariants.{Mul, Tax, Txa, Clc, Sec, Cli, Sei, Rsp, Nop, Rti, Rts, Swi, Stop, Wait}
use Rattle.opcodes.specs.declared.operation.Operation.{Operation}
use Rattle.opcodes.specs.declared.operation.Operation.TheVariants.{BranchIfSet, BranchIfClear, SetBit, ClearBit, Branch, Modify, Read, Store, Jump, Call, Control}
use Rattle.opcodes.specs.declared.addressing.Addressing.{Addressing}
use Rattle.opcodes.specs.declared.addressing.Addressing.TheVariants.{Inherent, Accumulator, Index, Immediate, Direct, Extended, Indexed, IndexedByte, IndexedWord, Relative, DirectRelative}
use Rattle.opcodes.specs.declared.addressing.Row.{Row}
use Rattle.opcodes.specs.Cycles.{cycles_of}

-- sixteen cells, from the line 0 to the line F
abbrev pub Column : Type 0
Column = List (Option Operation)

-- each bit in turn, set in the even lines and clear in the odd ones
abbrev pub bit_column : (Bit → Operation) → (Bit → Operation) → List Bit → Column
bit_column set clear [] = []
bit_column set clear (b ∷ bs) = Some (set b) ∷ Some (clear b) ∷ bit_column set clear bs

-- the bits in order
abbrev pub bits : List Bit
bits = Bit0 ∷ Bit1 ∷ Bit2 ∷ Bit3 ∷ Bit4 ∷ Bit5 ∷ Bit6 ∷ Bit7 ∷ []

-- $2x: each condition beside its opposite
abbrev pub branches : Column
branches =
    map (λ c. Some (Branch c))
    (Always ∷ Never ∷ Higher ∷ LowerOrSame ∷ CarryClear ∷ CarrySet ∷ NotEqual ∷ Equal
    ∷ HalfCarryClear ∷ HalfCarrySet ∷ Plus ∷ Minus ∷ MaskClear ∷ MaskSet ∷ IrqLow ∷ IrqHigh ∷ [])

-- a cell with a read-modify-write
abbrev pub modify : ReadModifyWrite → Option Operation
modify o = Some (Modify o)

-- a cell with a register and a byte of memory
abbrev pub read : RegisterMemory → Option Operation
read o = Some (Read o)

-- a cell with a control operation
abbrev pub control : ControlName → Option Operation
control o = Some (Control o)

-- $3x to $7x, but for MUL
abbrev pub modifiers : Column
modifiers =
    modify Neg ∷ None ∷ None ∷ modify Com ∷ modify Lsr ∷ None ∷ modify Ror ∷ modify Asr
    ∷ modify Lsl ∷ modify Rol ∷ modify Dec ∷ None ∷ modify Inc ∷ modify Tst ∷ None ∷ modify Clr ∷ []

-- $8x: returns, the software interrupt, and the modes that save power
abbrev pub returns : Column
returns =
    control Rti ∷ control Rts ∷ None ∷ control Swi ∷ None ∷ None ∷ None ∷ None
    ∷ None ∷ None ∷ None ∷ None ∷ None ∷ None ∷ control Stop ∷ control Wait ∷ []

-- $9x: flags, and moves between registers
abbrev pub flags : Column
flags =
    None ∷ None ∷ None ∷ None ∷ None ∷ None ∷ None ∷ control Tax
    ∷ control Clc ∷ control Sec ∷ control Cli ∷ control Sei ∷ control Rsp ∷ control Nop ∷ None ∷ control Txa ∷ []

-- $Ax to $Fx, with what stands in the lines 7, C and F
abbrev pub memory : Option Operation → Option Operation → Option Operation → Column
memory line7 line_c line_f =
    read Sub ∷ read Cmp ∷ read Sbc ∷ read Cpx ∷ read And ∷ read BitTest ∷ read Lda ∷ line7
    ∷ read Eor ∷ read Adc ∷ read Ora ∷ read Add ∷ line_c ∷ Some Call ∷ read Ldx ∷ line_f ∷ []

-- $Bx to $Fx: a store of A, a jump, a store of X; $Ax has nothing there
abbrev pub memory_column : Column
memory_column = memory (Some (Store A-register)) (Some Jump) (Some (Store X-register))

-- the sixteen columns, from $0x to $Fx
abbrev pub columns : List Column
columns =
    bit_column BranchIfSet BranchIfClear bits ∷ bit_column SetBit ClearBit bits ∷ branches
    ∷ modifiers ∷ modifiers ∷ modifiers ∷ modifiers ∷ modifiers ∷ returns ∷ flags
    ∷ memory None None None ∷ memory_column ∷ memory_column ∷ memory_column ∷ memory_column ∷ memory_column ∷ []

-- the operation of a code: its cell of the map, and MUL at $42
abbrev pub operation_of : ℕ → Option Operation
operation_of code = cond (code == 0x42) (control Mul) (slice_index_or (slice_index_or columns (code / 16) []) (code % 16) None)

-- the addressing of each column
abbrev pub addressings : List Addressing
addressings =
    DirectRelative ∷ Direct ∷ Relative ∷ Direct ∷ Accumulator ∷ Index ∷ IndexedByte ∷ Indexed
    ∷ Inherent ∷ Inherent ∷ Immediate ∷ Direct ∷ Extended ∷ IndexedWord ∷ IndexedByte ∷ Indexed ∷ []

-- the addressing of a code: its column's, but MUL is inherent and BSR relative
abbrev pub addressing_of : ℕ → Addressing
addressing_of code = cond (code == 0x42) Inherent (cond (code == 0xad) Relative (slice_index_or addressings (code / 16) Inherent))

-- the bytes of an instruction: the code, and what the addressing takes after it
abbrev pub length_of : Addressing → ℕ
length_of Inherent = 1
length_of Accumulator = 1
length_of Index = 1
length_of Immediate = 2
length_of Direct = 2
length_of Extended = 3
length_of Indexed = 1
length_of IndexedByte = 2
length_of IndexedWord = 3
length_of Relative = 2
length_of DirectRelative = 3

-- the row of a code that has an operation
abbrev pub row_with : ℕ → Option Operation → Option Row
row_with code None = None
row_with code (Some o) =
    Some (record { operation = o; addressing = addressing_of code; length = length_of (addressing_of code); cycles = cycles_of code })

-- the row of a code
unfoldable pub row_of : ℕ → Option Row
row_of code = row_with code (operation_of code)
