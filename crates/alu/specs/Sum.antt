-- Sums, differences and products of bytes.
use Rattle.std.specs.Prelude.{ℕ, ◌+◌, ◌-◌, ◌*◌, ◌/◌, ◌%◌, Bool, nat_le, nat_lt}
use Rattle.alu.specs.declared.sum.Sum.{Sum}
use Rattle.alu.specs.declared.outcome.Outcome.{Outcome}
use Rattle.alu.specs.Bit.{one_if}

-- a and b and the carry; half is the carry from bit 3
abbrev pub sum_of : ℕ → ℕ → Bool → Sum
sum_of a b c =
    record {
      value = (a + b + one_if c) % 256;
      half = nat_le 16 (a % 16 + b % 16 + one_if c);
      carry = nat_le 256 (a + b + one_if c);
    }

-- a less b and less the borrow; the carry is the borrow that this needs
abbrev pub difference_of : ℕ → ℕ → Bool → Outcome
difference_of a b c = record { value = (256 + a - (b + one_if c)) % 256; carry = nat_lt a (b + one_if c) }

-- high byte, low byte
abbrev pub product_of : ℕ → ℕ → ℕ × ℕ
product_of a x = (a * x / 256, a * x % 256)
