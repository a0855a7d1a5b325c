-- What each operation does, with its operand's place.
use Rattle.std.specs.Prelude.{ℕ, ◌%◌, Bool, true, false, cond, not, ◌==◌}
use Rattle.bits.specs.Bits.{bit_at}
use Rattle.alu.specs.Bit.{bit_number, with_bit, without_bit}
use Rattle.alu.specs.Condition.{condition_holds}
use Rattle.alu.specs.Flags.{with_c}
use Rattle.alu.specs.Modify.{modified_byte, modified_flags}
use Rattle.board.specs.declared.reading.Reading.{Reading}
use Rattle.chip.specs.declared.state.Chip.{Chip}
use Rattle.chip.specs.Memory.{read, written}
use Rattle.chip.specs.State.{with_registers, with_a, with_x, with_sp, with_flags}
use Rattle.opcodes.specs.declared.addressing.Addressing.{Addressing}
use Rattle.opcodes.specs.declared.operation.Bit.{Bit}
use Rattle.opcodes.specs.declared.operation.Control.{Control as Controls}
use Rattle.opcodes.specs.declared.operation.Control.TheVariants.{Mul, Tax, Txa, Clc, Sec, Cli, Sei, Rsp, Nop, Rti, Rts, Swi, Stop, Wait}
use Rattle.opcodes.specs.declared.operation.Operation.{Operation}
use Rattle.opcodes.specs.declared.operation.Operation.TheVariants.{BranchIfSet, BranchIfClear, SetBit, ClearBit, Branch, Modify, Read, Store, Jump, Call, Control}
use Rattle.opcodes.specs.declared.operation.ReadModifyWrite.{ReadModifyWrite}
use Rattle.opcodes.specs.declared.operation.ReadModifyWrite.TheVariants.{Neg, Com, Lsr, Ror, Asr, Lsl, Rol, Dec, Inc, Tst, Clr}
use Rattle.opcodes.specs.declared.operation.Register.{Register}
use Rattle.part.specs.Layout.{address_space, branch_target}
use Rattle.part.specs.declared.layout.Vector.TheVariants.{Swi as SwiVector}
use Rattle.execute.specs.declared.place.Place.{Place}
use Rattle.execute.specs.Place.{place_of, value_at, stored_at, address_in}
use Rattle.execute.specs.Registers.{tested, combined, multiplied, register_of}
use Rattle.execute.specs.Entry.{at, masked, called, entered, returned, resumed, waited, stopped}

abbrev pub with_carry : Bool → Chip → Chip
with_carry c s = with_registers (with_flags (with_c s.registers.flags c) s.registers) s

-- a branch that is taken goes on by a signed offset
abbrev pub branched_if : Bool → ℕ → Chip → Chip
branched_if taken offset s = cond taken (at (branch_target s.registers.pc offset) s) s

abbrev pub same : Bool → Bool → Bool
same a b = cond a b (not b)

-- BRSET and BRCLR: C is the bit, and the branch is taken where the bit is as wanted
abbrev pub branched_bit : Bit → Bool → ℕ → ℕ → Reading → Chip → Chip
branched_bit n wanted address offset r s =
    let found : Bool = bit_at (read r address s) (bit_number n) in
    branched_if (same found wanted) offset (with_carry found s)

abbrev pub bit_changed : Bit → Bool → ℕ → ℕ
bit_changed n on byte = cond on (with_bit byte (bit_number n)) (without_bit byte (bit_number n))

-- BSET and BCLR
abbrev pub changed_bit : Bit → Bool → ℕ → Reading → Chip → Chip
changed_bit n on address r s = written address (bit_changed n on (read r address s)) s

-- whether a read-modify-write writes: all but TST
abbrev pub writes_back : ReadModifyWrite → Bool
writes_back Neg = true
writes_back Com = true
writes_back Lsr = true
writes_back Ror = true
writes_back Asr = true
writes_back Lsl = true
writes_back Rol = true
writes_back Dec = true
writes_back Inc = true
writes_back Tst = false
writes_back Clr = true

abbrev pub modified_at : ReadModifyWrite → Place → Reading → Chip → Chip
modified_at o place r s =
    let byte : ℕ = value_at place r s in
    let judged : Chip = with_registers (with_flags (modified_flags o s.registers.flags byte) s.registers) s in
    cond (writes_back o) (stored_at place (modified_byte o s.registers.flags byte) judged) judged

-- STA and STX
abbrev pub stored_from : Register → Place → Chip → Chip
stored_from register place s =
    let byte : ℕ = register_of register s.registers in
    stored_at place byte (with_registers (tested byte s.registers) s)

-- the instructions without an operand
abbrev pub controlled : Controls → Chip → Chip
controlled Mul s = with_registers (multiplied s.registers) s
controlled Tax s = with_registers (with_x s.registers.a s.registers) s
controlled Txa s = with_registers (with_a s.registers.x s.registers) s
controlled Clc s = with_carry false s
controlled Sec s = with_carry true s
controlled Cli s = masked false s
controlled Sei s = masked true s
controlled Rsp s = with_registers (with_sp 255 s.registers) s
controlled Nop s = s
controlled Rti s = resumed s
controlled Rts s = returned s
controlled Swi s = entered SwiVector s
controlled Stop s = stopped s
controlled Wait s = waited s

-- an operation at the place of its operand; first and second are the bytes after its code, and PC is past the instruction
abbrev pub performed_at : Operation → Place → ℕ → ℕ → Reading → Chip → Chip
performed_at (BranchIfSet n) place first second r s = branched_bit n true first second r s
performed_at (BranchIfClear n) place first second r s = branched_bit n false first second r s
performed_at (SetBit n) place first second r s = changed_bit n true first r s
performed_at (ClearBit n) place first second r s = changed_bit n false first r s
performed_at (Branch k) place first second r s = branched_if (condition_holds k s.registers.flags (not (r.irq == 0))) first s
performed_at (Modify o) place first second r s = modified_at o place r s
performed_at (Read o) place first second r s = with_registers (combined o (value_at place r s) s.registers) s
performed_at (Store register) place first second r s = stored_from register place s
performed_at Jump place first second r s = at (address_in place % address_space) s
performed_at Call place first second r s = called (address_in place % address_space) s
performed_at (Control o) place first second r s = controlled o s

abbrev pub performed : Operation → Addressing → ℕ → ℕ → Reading → Chip → Chip
performed o m first second r s = performed_at o (place_of m s.registers first second) first second r s
