-- Numbers in hexadecimal, as an assembler writes them.
use Rattle.std.specs.Prelude.{ℕ, ◌+◌, ◌/◌, ◌%◌, cond, List, [], ◌∷◌, ◌++◌, codes, nat_lt}

-- the digit of a number below 16: 0 is the character 48, A the character 65
abbrev pub hex_digit : ℕ → List ℕ
hex_digit n = cond (nat_lt n 10) (48 + n) (55 + n) ∷ []

-- the two digits of a byte
abbrev pub two_digits : ℕ → List ℕ
two_digits n = hex_digit (n / 16) ++ hex_digit (n % 16)

-- a byte: $1E
abbrev pub hex_byte : ℕ → List ℕ
hex_byte n = codes "$" ++ two_digits n

-- a word: $0312
abbrev pub hex_word : ℕ → List ℕ
hex_word n = codes "$" ++ two_digits (n / 256) ++ two_digits (n % 256)
