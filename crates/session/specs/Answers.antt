-- The text of each answer, and of each reason why there is none.
use Rattle.std.specs.Prelude.{ℕ, List, ◌++◌, codes, decimal, Ok, Err, Result}
use Rattle.board.specs.Reading.{reading_text}
use Rattle.board.specs.Refused.{bad_entry_text}
use Rattle.part.specs.Image.{image_refused_text}
use Rattle.script.specs.Reasons.{reason_of}
use Rattle.session.specs.declared.failure.Failure.{Failure}
use Rattle.session.specs.declared.failure.Failure.TheVariants.{NotOffered, NoBoard, BadEntry, MissingEntries, BadBytes, UnreadFile, Line, Board, Image}
use Rattle.session.specs.declared.answer.Answer.{Answer}
use Rattle.session.specs.declared.answer.Answer.TheVariants.{Done, Listed, Shown, Quiet}

abbrev pub answer_text : Result Answer Failure → List ℕ
answer_text (Ok Done) = codes "ok"
answer_text (Ok (Listed lines)) = codes "ok " ++ decimal lines
answer_text (Ok (Shown reading)) = codes "show " ++ reading_text reading
answer_text (Ok (Quiet cycles)) = codes "quiet " ++ decimal cycles
answer_text (Err (Board bad)) = codes "refused " ++ bad_entry_text bad
answer_text (Err (Image refused)) = codes "refused " ++ image_refused_text refused
answer_text (Err NotOffered) = codes "error not offered"
answer_text (Err NoBoard) = codes "error no board"
answer_text (Err BadEntry) = codes "error bad entry"
answer_text (Err MissingEntries) = codes "error missing entries"
answer_text (Err BadBytes) = codes "error bad bytes"
answer_text (Err UnreadFile) = codes "error cannot read file"
answer_text (Err (Line problem)) = codes "error " ++ reason_of problem
