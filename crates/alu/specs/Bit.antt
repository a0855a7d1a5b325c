-- Bits of a byte, by their place; bit 0 is the lowest.
use Rattle.std.specs.Prelude.{ℕ, ◌-◌, ◌^◌, Bool, cond, bit_and, bit_or}
pub use Rattle.opcodes.specs.Operand.{bit_number}

-- bit n set, the others kept
abbrev pub with_bit : ℕ → ℕ → ℕ
with_bit v n = bit_or v (2 ^ n)

-- bit n clear, the others kept
abbrev pub without_bit : ℕ → ℕ → ℕ
without_bit v n = bit_and v (255 - 2 ^ n)

-- a flag as a number
abbrev pub one_if : Bool → ℕ
one_if b = cond b 1 0
