-- The instructions that take a byte to a register or work on registers alone.
use Rattle.std.specs.Prelude.{ℕ, false, bit_and, bit_or, bit_xor}
use Rattle.alu.specs.Flags.{with_h, with_c, with_nz, with_nzc}
use Rattle.alu.specs.Sum.{sum_of, difference_of, product_of}
use Rattle.alu.specs.declared.outcome.Outcome.{Outcome}
use Rattle.alu.specs.declared.sum.Sum.{Sum}
use Rattle.chip.specs.declared.state.Registers.{Registers}
use Rattle.chip.specs.State.{with_a, with_x, with_flags}
use Rattle.opcodes.specs.declared.operation.Register.{Register}
use Rattle.opcodes.specs.declared.operation.Register.TheVariants.{Accumulator, Index}
use Rattle.opcodes.specs.declared.operation.RegisterMemory.{RegisterMemory}
use Rattle.opcodes.specs.declared.operation.RegisterMemory.TheVariants.{Sub, Cmp, Sbc, Cpx, And, Bit, Lda, Eor, Adc, Ora, Add, Ldx}

-- N and Z by a byte, and a comparison's N, Z and C
abbrev pub tested : ℕ → Registers → Registers
tested byte r = with_flags (with_nz r.flags byte) r

abbrev pub compared : Outcome → Registers → Registers
compared d r = with_flags (with_nzc r.flags d.value d.carry) r

-- a byte in A, with its N and Z
abbrev pub kept : ℕ → Registers → Registers
kept byte r = tested byte (with_a byte r)

-- a difference in A, with N, Z and C; a sum with H too
abbrev pub subtracted : Outcome → Registers → Registers
subtracted d r = compared d (with_a d.value r)

abbrev pub added : Sum → Registers → Registers
added sum r = with_flags (with_nzc (with_h r.flags sum.half) sum.value sum.carry) (with_a sum.value r)

-- an instruction with this byte
abbrev pub combined : RegisterMemory → ℕ → Registers → Registers
combined Sub byte r = subtracted (difference_of r.a byte false) r
combined Cmp byte r = compared (difference_of r.a byte false) r
combined Sbc byte r = subtracted (difference_of r.a byte r.flags.c) r
combined Cpx byte r = compared (difference_of r.x byte false) r
combined And byte r = kept (bit_and r.a byte) r
combined Bit byte r = tested (bit_and r.a byte) r
combined Lda byte r = kept byte r
combined Eor byte r = kept (bit_xor r.a byte) r
combined Adc byte r = added (sum_of r.a byte r.flags.c) r
combined Ora byte r = kept (bit_or r.a byte) r
combined Add byte r = added (sum_of r.a byte false) r
combined Ldx byte r = tested byte (with_x byte r)

-- MUL: the high byte of the product in X, the low byte in A; H and C are 0
abbrev pub multiplied : Registers → Registers
multiplied r = with_flags (with_c (with_h r.flags false) false) (with_x (product_of r.a r.x).0 (with_a (product_of r.a r.x).1 r))

-- the register that a store writes
abbrev pub register_of : Register → Registers → ℕ
register_of Accumulator r = r.a
register_of Index r = r.x
