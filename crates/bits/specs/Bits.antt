-- Single bits of a byte.
use Rattle.std.specs.Prelude.{ℕ, ◌/◌, ◌%◌, ◌^◌, Bool, cond, eqb}

-- whether bit n, 0 for the lowest, is 1
abbrev pub bit_at : ℕ → ℕ → Bool
bit_at byte n = eqb (byte / 2 ^ n % 2) 1

-- what a flag adds to a byte: its value where it is set, else 0
abbrev pub flag : Bool → ℕ → ℕ
flag set value = cond set value 0
