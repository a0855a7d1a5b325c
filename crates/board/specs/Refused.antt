-- The text of a refused board.
use Rattle.std.specs.Prelude.{ℕ, List, ◌++◌, codes, decimal}
use Rattle.refusal.specs.Numbers.{number_of}
use Rattle.refusal.specs.declared.Refusal.TheVariants.{Board}
use Rattle.board.specs.declared.refused.BadEntry.{BadEntry}

-- the refusal's number and the index of the bad entry
abbrev pub bad_entry_text : BadEntry → List ℕ
bad_entry_text bad = decimal (number_of Board) ++ (codes " " ++ decimal bad.index)
