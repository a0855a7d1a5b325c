-- The mnemonic of an instruction.
use Rattle.std.specs.Prelude.{ℕ, List, [], ◌++◌, codes}
use Rattle.opcodes.specs.declared.operation.Condition.{Condition}
use Rattle.opcodes.specs.declared.operation.Condition.TheVariants.{Always, Never, Higher, LowerOrSame, CarryClear, CarrySet, NotEqual, Equal, HalfCarryClear, HalfCarrySet, Plus, Minus, MaskClear, MaskSet, IrqLow, IrqHigh}
use Rattle.opcodes.specs.declared.operation.ReadModifyWrite.{ReadModifyWrite}
use Rattle.opcodes.specs.declared.operation.ReadModifyWrite.TheVariants.{Neg, Com, Lsr, Ror, Asr, Lsl, Rol, Dec, Inc, Tst, Clr}
use Rattle.opcodes.specs.declared.operation.RegisterMemory.{RegisterMemory}
use Rattle.opcodes.specs.declared.operation.RegisterMemory.TheVariants.{Sub, Cmp, Sbc, Cpx, And, Bit, Lda, Eor, Adc, Ora, Add, Ldx}
use Rattle.opcodes.specs.declared.operation.Register.{Register}
use Rattle.opcodes.specs.declared.operation.Register.TheVariants as register
use Rattle.opcodes.specs.declared.operation.Control.{Control as ControlOperation}
use Rattle.opcodes.specs.declared.operation.Control.TheVariants.{Mul, Tax, Txa, Clc, Sec, Cli, Sei, Rsp, Nop, Rti, Rts, Swi, Stop, Wait}
use Rattle.opcodes.specs.declared.operation.Operation.{Operation}
use Rattle.opcodes.specs.declared.operation.Operation.TheVariants.{BranchIfSet, BranchIfClear, SetBit, ClearBit, Branch, Modify, Read, Store, Jump, Call, Control}
use Rattle.opcodes.specs.declared.addressing.Addressing.{Addressing}
use Rattle.opcodes.specs.declared.addressing.Addressing.TheVariants.{Inherent, Accumulator, Index, Immediate, Direct, Extended, Indexed, IndexedByte, IndexedWord, Relative, DirectRelative}
use Rattle.opcodes.specs.declared.addressing.Row.{Row}

-- a branch, by its condition
abbrev pub branch_name : Condition → List ℕ
branch_name Always = codes "BRA"
branch_name Never = codes "BRN"
branch_name Higher = codes "BHI"
branch_name LowerOrSame = codes "BLS"
branch_name CarryClear = codes "BCC"
branch_name CarrySet = codes "BCS"
branch_name NotEqual = codes "BNE"
branch_name Equal = codes "BEQ"
branch_name HalfCarryClear = codes "BHCC"
branch_name HalfCarrySet = codes "BHCS"
branch_name Plus = codes "BPL"
branch_name Minus = codes "BMI"
branch_name MaskClear = codes "BMC"
branch_name MaskSet = codes "BMS"
branch_name IrqLow = codes "BIL"
branch_name IrqHigh = codes "BIH"

-- a read-modify-write
abbrev pub modify_name : ReadModifyWrite → List ℕ
modify_name Neg = codes "NEG"
modify_name Com = codes "COM"
modify_name Lsr = codes "LSR"
modify_name Ror = codes "ROR"
modify_name Asr = codes "ASR"
modify_name Lsl = codes "LSL"
modify_name Rol = codes "ROL"
modify_name Dec = codes "DEC"
modify_name Inc = codes "INC"
modify_name Tst = codes "TST"
modify_name Clr = codes "CLR"

-- a register and a byte of memory
abbrev pub read_name : RegisterMemory → List ℕ
read_name Sub = codes "SUB"
read_name Cmp = codes "CMP"
read_name Sbc = codes "SBC"
read_name Cpx = codes "CPX"
read_name And = codes "AND"
read_name Bit = codes "BIT"
read_name Lda = codes "LDA"
read_name Eor = codes "EOR"
read_name Adc = codes "ADC"
read_name Ora = codes "ORA"
read_name Add = codes "ADD"
read_name Ldx = codes "LDX"

-- a store
abbrev pub store_name : Register → List ℕ
store_name register.Accumulator = codes "STA"
store_name register.Index = codes "STX"

-- the CPU alone
abbrev pub control_name : ControlOperation → List ℕ
control_name Mul = codes "MUL"
control_name Tax = codes "TAX"
control_name Txa = codes "TXA"
control_name Clc = codes "CLC"
control_name Sec = codes "SEC"
control_name Cli = codes "CLI"
control_name Sei = codes "SEI"
control_name Rsp = codes "RSP"
control_name Nop = codes "NOP"
control_name Rti = codes "RTI"
control_name Rts = codes "RTS"
control_name Swi = codes "SWI"
control_name Stop = codes "STOP"
control_name Wait = codes "WAIT"

-- a call: BSR where it is relative, else JSR
abbrev pub call_name : Addressing → List ℕ
call_name Inherent = codes "JSR"
call_name Accumulator = codes "JSR"
call_name Index = codes "JSR"
call_name Immediate = codes "JSR"
call_name Direct = codes "JSR"
call_name Extended = codes "JSR"
call_name Indexed = codes "JSR"
call_name IndexedByte = codes "JSR"
call_name IndexedWord = codes "JSR"
call_name Relative = codes "BSR"
call_name DirectRelative = codes "JSR"

-- an operation in an addressing
abbrev pub operation_name : Addressing → Operation → List ℕ
operation_name a (BranchIfSet b) = codes "BRSET"
operation_name a (BranchIfClear b) = codes "BRCLR"
operation_name a (SetBit b) = codes "BSET"
operation_name a (ClearBit b) = codes "BCLR"
operation_name a (Branch c) = branch_name c
operation_name a (Modify o) = modify_name o
operation_name a (Read o) = read_name o
operation_name a (Store r) = store_name r
operation_name a Jump = codes "JMP"
operation_name a Call = call_name a
operation_name a (Control o) = control_name o

-- the letter of the register that a read-modify-write works on
abbrev pub suffix_of : Addressing → List ℕ
suffix_of Inherent = []
suffix_of Accumulator = codes "A"
suffix_of Index = codes "X"
suffix_of Immediate = []
suffix_of Direct = []
suffix_of Extended = []
suffix_of Indexed = []
suffix_of IndexedByte = []
suffix_of IndexedWord = []
suffix_of Relative = []
suffix_of DirectRelative = []

-- the mnemonic without that letter
abbrev pub name_of : Row → List ℕ
name_of row = operation_name row.addressing row.operation

-- the mnemonic: NEG, NEGA, NEGX, LDA, BRSET
abbrev pub mnemonic_of : Row → List ℕ
mnemonic_of row = name_of row ++ suffix_of row.addressing
