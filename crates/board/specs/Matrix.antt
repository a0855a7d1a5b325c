-- What a keyboard matrix means, as a board.
use Rattle.std.specs.Prelude.{ℕ, ◌+◌, ◌*◌, ◌/◌, ◌%◌, ◌^◌, cond, ◌==◌, bit_and, bit_or, bit_xor}
use Rattle.board.specs.declared.reading.Reading.{Reading}
use Rattle.board.specs.declared.reading.Outputs.{Outputs}
use Rattle.board.specs.declared.matrix.Matrix.{Matrix}

-- bit i of a number
abbrev pub bit : ℕ → ℕ → ℕ
bit n i = n / 2 ^ i % 2

-- the number of four bits, bit c of which is f c
abbrev pub four_bits : (ℕ → ℕ) → ℕ
four_bits f = f 0 + 2 * f 1 + 4 * f 2 + 8 * f 3

-- 1 where row r is at 1 and its key in column c is pressed
abbrev pub joins : ℕ → ℕ → ℕ → ℕ → ℕ
joins keys rows r c = bit_and (bit rows r) (bit keys (4 * r + c))

-- the pressed keys of row r, bit c for column c, where that row is at 1
abbrev pub row : ℕ → ℕ → ℕ → ℕ
row keys rows r = cond (bit rows r == 1) (keys / 2 ^ (4 * r) % 16) 0

-- the columns that a key of any row joins with a row at 1
unfoldable pub columns : ℕ → ℕ → ℕ
columns keys rows = four_bits (λ c. bit_or (bit_or (bit_or (joins keys rows 0 c) (joins keys rows 1 c)) (joins keys rows 2 c)) (joins keys rows 3 c))

-- these keys pressed, and no pin an output
abbrev pub matrix_of : ℕ → Matrix
matrix_of k = record { keys = k; outputs = record { direction_a = 0; driven_a = 0; direction_b = 0; driven_b = 0 } }

-- the joined columns are driven at 1, every other pin is open at 0, and IRQ is 1
abbrev pub columns_shown : ℕ → Reading
columns_shown n = record { level_a = n; open_a = bit_xor 255 n; level_b = 0; open_b = 63; irq = 1 }

-- a row is at 1 where its pin was told as an output at level 1
abbrev pub matrix_shows : Matrix → ℕ → Reading
matrix_shows m n = columns_shown (columns m.keys (bit_and m.outputs.direction_b m.outputs.driven_b))

-- time changes nothing
abbrev pub matrix_advanced : Matrix → ℕ → Matrix
matrix_advanced m n = m

-- the outputs are kept
abbrev pub matrix_told : Matrix → Outputs → Matrix
matrix_told m o = record { keys = m.keys; outputs = o }
