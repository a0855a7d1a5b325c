-- Numbers and bytes as the hexadecimal digits that write them: lower case, no prefix.
use Rattle.std.specs.Prelude.{ℕ, ◌+◌, ◌/◌, ◌%◌, cond, List, [], ◌∷◌, ◌++◌, nat_lt}

-- the digit of a number below 16: 0 is the character 48, a the character 97
abbrev pub digit_text : ℕ → List ℕ
digit_text n = cond (nat_lt n 10) (48 + n) (87 + n) ∷ []

-- two digits: 1e
abbrev pub byte_text : ℕ → List ℕ
byte_text n = digit_text (n / 16) ++ digit_text (n % 16)

-- four digits: 031e
abbrev pub word_text : ℕ → List ℕ
word_text n = byte_text (n / 256) ++ byte_text (n % 256)

-- eight digits: 811c9dc5
abbrev pub quad_text : ℕ → List ℕ
quad_text n = word_text (n / 65536) ++ word_text (n % 65536)

-- two digits for each byte
unfoldable pub bytes_text : List ℕ → List ℕ
bytes_text [] = []
bytes_text (b ∷ bs) = byte_text b ++ bytes_text bs
