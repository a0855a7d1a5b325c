-- The byte strings that a script gives, and the listing of an image.
use Rattle.std.specs.Prelude.{◌≡◌, ◌≢◌, ℕ, ◌+◌, ◌-◌, ◌^◌, min, List, length, Some, None, Ok, Err, Option, Result, slice_index}
use Rattle.std.specs.Option.{ok_or}
use Rattle.listing.specs.Sweep.{lines_of}
use Rattle.part.specs.declared.image.ImageRefused.{ImageRefused}
use Rattle.part.specs.Image.{image_checked}
use Rattle.script.specs.declared.call.Problem.TheVariants.{MissingArgument}
use Rattle.text.specs.Hex.{bytes_of}
use Rattle.session.specs.declared.failure.Failure.{Failure}
use Rattle.session.specs.declared.failure.Failure.TheVariants.{BadBytes, Line, Image}
use Rattle.session.specs.declared.answer.Answer.{Answer}
use Rattle.session.specs.declared.answer.Answer.TheVariants.{Listed}

-- what the word of an argument gives: bytes in hexadecimal; after an @ what a file holds, of which nothing is known
abbrev pub ByteString : Option (List ℕ) → Result (List ℕ) Failure → Type 0
ByteString None bytes = bytes ≡ Err (Line MissingArgument)
ByteString (Some word) bytes = slice_index word 0 ≢ 64 → bytes ≡ ok_or (bytes_of word) BadBytes

abbrev pub listed_as : Result (Unit {0}) ImageRefused → List ℕ → Result Answer Failure
listed_as (Ok x) image = Ok (Listed (min (length (lines_of image) + 4) (2 ^ 64 - 1)))
listed_as (Err refused) image = Err (Image refused)

-- the answer to a listing: its lines and the four vectors, or why the bytes are no image
abbrev pub listed : List ℕ → Result Answer Failure
listed image = listed_as (image_checked image) image

abbrev pub list_answer : Result (List ℕ) Failure → Result Answer Failure
list_answer (Ok image) = listed image
list_answer (Err failure) = Err failure

-- the answer to a listing of what the word of an argument gives
abbrev pub Lists : Option (List ℕ) → Result Answer Failure → Type 0
Lists word answer = (bytes : Result (List ℕ) Failure) × ByteString word bytes × (answer ≡ list_answer bytes)
