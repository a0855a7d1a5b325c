-- Moves of a byte by one bit.
use Rattle.std.specs.Prelude.{ℕ, ◌+◌, ◌*◌, ◌/◌, ◌%◌, Bool, ◌==◌, nat_le}
use Rattle.alu.specs.declared.outcome.Outcome.{Outcome}
use Rattle.alu.specs.Bit.{one_if}

abbrev pub left_value : ℕ → Bool → ℕ
left_value v low = (v * 2 + one_if low) % 256

abbrev pub right_value : ℕ → Bool → ℕ
right_value v high = v / 2 + 128 * one_if high

-- to the left, with a new bit 0; bit 7 moves out
abbrev pub moved_left : ℕ → Bool → Outcome
moved_left v low = record { value = left_value v low; carry = nat_le 128 v }

-- to the right, with a new bit 7; bit 0 moves out
abbrev pub moved_right : ℕ → Bool → Outcome
moved_right v high = record { value = right_value v high; carry = (v % 2 == 1) }
