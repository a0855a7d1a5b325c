-- The text of a listing's lines.
use Rattle.std.specs.Prelude.{ℕ, ◌-◌, ◌/◌, ◌%◌, ◌^◌, cond, List, ◌++◌, Some, None, codes, decimal, Option, ◌==◌}
use Rattle.std.specs.Fmt.{format_spec, padded}
use Rattle.opcodes.specs.declared.addressing.Row.{Row}
use Rattle.opcodes.specs.Hex.{two_digits, hex_byte, hex_word}
use Rattle.opcodes.specs.Mnemonic.{mnemonic_of}
use Rattle.opcodes.specs.Operand.{operand_text}
use Rattle.part.specs.declared.layout.Vector.{Vector}
use Rattle.part.specs.Layout.{vector_address, vector_name}
use Rattle.listing.specs.declared.line.Line.{Line}
use Rattle.listing.specs.Line.{length_of, operand_of_line}
use Rattle.listing.specs.Vectors.{vector_word}

-- two bytes, or the bytes of a word: 07 1E
abbrev pub two_bytes : ℕ → ℕ → List ℕ
two_bytes first second = two_digits first ++ (codes " " ++ two_digits second)

-- the bytes of a line
abbrev pub bytes_text : Line → List ℕ
bytes_text l =
    cond (length_of l == 1) (two_digits l.code)
    (cond (length_of l == 2) (two_bytes l.code l.first) (two_digits l.code ++ (codes " " ++ two_bytes l.first l.second)))

-- the text of a row, or of a code that has none
abbrev pub row_text : Line → Option Row → List ℕ
row_text l (Some row) = mnemonic_of row ++ (codes " " ++ operand_text (operand_of_line l))
row_text l None = codes "FCB " ++ hex_byte l.code

-- mnemonic and operand; a code without an instruction is a byte
abbrev pub instruction_text : Line → List ℕ
instruction_text l = row_text l l.row

-- the cycles of an instruction; a byte that is none costs nothing
abbrev pub cycles_text : Option Row → List ℕ
cycles_text (Some row) = decimal row.cycles
cycles_text None = codes "-"

-- at the left of a column of this width, which spaces fill
abbrev pub column : ℕ → List ℕ → List ℕ
column width text = padded (format_spec 32 1 0 width (2 ^ 64 - 1)) text

-- the columns of a line: address, bytes, instruction, and what stands last
abbrev pub columns_text : ℕ → List ℕ → List ℕ → List ℕ → List ℕ
columns_text address bytes instruction last =
    (two_digits (address / 256) ++ two_digits (address % 256))
    ++ (codes "  " ++ (column 8 bytes ++ (codes "  " ++ (column 20 instruction ++ (codes "  " ++ last)))))

-- a line of the listing
abbrev pub line_text : Line → List ℕ
line_text l = columns_text l.address (bytes_text l) (instruction_text l) (cycles_text l.row)

-- the line of a vector that holds this word
abbrev pub word_columns : Vector → ℕ → List ℕ
word_columns vector word = columns_text (vector_address vector) (two_bytes (word / 256) (word % 256)) (codes "FDB " ++ hex_word word) (vector_name vector)

-- the line of a vector of this image
abbrev pub vector_text : List ℕ → Vector → List ℕ
vector_text image vector = word_columns vector (vector_word image vector)
