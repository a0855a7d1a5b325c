-- Decimal numbers.
use Rattle.std.specs.Prelude.{ℕ, ◌+◌, ◌-◌, ◌*◌, Bool, cond, ◌&&◌, List, [], ◌∷◌, Some, None, Option, nat_le}

abbrev pub is_digit : ℕ → Bool
is_digit c = nat_le 48 c && nat_le c 57

-- the value with one digit more
abbrev pub appended : ℕ → ℕ → ℕ
appended value c = value * 10 + (c - 48)

-- the value with the digits that follow, if all are digits and it stays at or below the limit
unfoldable pub digits_after : ℕ → ℕ → List ℕ → Option ℕ
digits_after limit value [] = Some value
digits_after limit value (c ∷ cs) = cond (is_digit c && nat_le (appended value c) limit) (digits_after limit (appended value c) cs) None

-- a word of one digit or more is a number
abbrev pub number_of : ℕ → List ℕ → Option ℕ
number_of limit [] = None
number_of limit (c ∷ cs) = digits_after limit 0 (c ∷ cs)
