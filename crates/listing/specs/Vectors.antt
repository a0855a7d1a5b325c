-- The vectors of an image, as a listing shows them.
use Rattle.std.specs.Prelude.{ℕ, ◌+◌, ◌*◌, List}
use Rattle.part.specs.declared.layout.Vector.{Vector}
use Rattle.part.specs.Layout.{vector_address}
use Rattle.listing.specs.Line.{byte_at}

-- the two bytes as a word, the high byte first
abbrev pub vector_word : List ℕ → Vector → ℕ
vector_word image vector = byte_at image (vector_address vector) * 256 + byte_at image (vector_address vector + 1)
