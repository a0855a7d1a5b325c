-- The published number of each refusal: 1 to 11 for what a call was given, 21 to 23 for the state it found.
use Rattle.std.specs.Prelude.{ℕ}
use Rattle.refusal.specs.declared.Refusal.{Refusal}
use Rattle.refusal.specs.declared.Refusal.TheVariants.{ImageLength, ImageByte, Target, FileEnds, FrontByte, RecordKind, RecordLength, Field, Level, Buffer, Board, NoImage, TotalLimit, NoInstruction}

abbrev pub number_of : Refusal → ℕ
number_of ImageLength = 1
number_of ImageByte = 2
number_of Target = 3
number_of FileEnds = 4
number_of FrontByte = 5
number_of RecordKind = 6
number_of RecordLength = 7
number_of Field = 8
number_of Level = 9
number_of Buffer = 10
number_of Board = 11
number_of NoImage = 21
number_of TotalLimit = 22
number_of NoInstruction = 23
