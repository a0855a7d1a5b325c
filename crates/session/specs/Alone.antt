-- The board that stands alone, beside a machine.
use Rattle.std.specs.Prelude.{Some, None, Ok, Err, Option, Result}
use Rattle.board.specs.declared.any.AnyBoard.{AnyBoard}
use Rattle.board.specs.declared.refused.BadEntry.{BadEntry}
use Rattle.board.specs.Any.{any_shows, any_advanced, any_told, any_quiet}
use Rattle.script.specs.declared.call.Purpose.{Purpose}
use Rattle.script.specs.declared.call.Purpose.TheVariants.{NewMachine, Replacement, Alone}
use Rattle.script.specs.declared.call.BoardCall.{BoardCall}
use Rattle.script.specs.declared.call.BoardCall.TheVariants.{Show, Advance, Tell, Quiet}
use Rattle.session.specs.declared.failure.Failure.{Failure}
use Rattle.session.specs.declared.failure.Failure.TheVariants.{NotOffered, NoBoard, Board}
use Rattle.session.specs.declared.answer.Answer.{Answer}
use Rattle.session.specs.declared.answer.Answer.TheVariants.{Done, Shown, Quiet as QuietFor}
use Rattle.session.specs.declared.reply.Reply.{Reply}
use Rattle.session.specs.declared.reply.Reply.TheVariants.{Said, Begin}

-- the board that stands alone after one was made
abbrev pub placed : Purpose → Result AnyBoard BadEntry → Option AnyBoard → Option AnyBoard
placed NewMachine made old = old
placed Replacement made old = old
placed Alone (Ok board) old = Some board
placed Alone (Err bad) old = old

-- a board for a new machine is handed on; none can be put in place of a machine's own yet
abbrev pub placed_reply : Purpose → Result AnyBoard BadEntry → Result Reply Failure
placed_reply NewMachine (Ok board) = Ok (Begin board)
placed_reply NewMachine (Err bad) = Err (Board bad)
placed_reply Replacement made = Err NotOffered
placed_reply Alone (Ok board) = Ok (Said Done)
placed_reply Alone (Err bad) = Err (Board bad)

-- the board after a call
abbrev pub board_after : BoardCall → AnyBoard → AnyBoard
board_after Show board = board
board_after (Advance n) board = any_advanced board n
board_after (Tell outputs) board = any_told board outputs
board_after Quiet board = board

abbrev pub alone_after : BoardCall → Option AnyBoard → Option AnyBoard
alone_after call None = None
alone_after call (Some board) = Some (board_after call board)

abbrev pub answer_of : BoardCall → AnyBoard → Answer
answer_of Show board = Shown (any_shows board 0)
answer_of (Advance n) board = Done
answer_of (Tell outputs) board = Done
answer_of Quiet board = QuietFor (any_quiet board)

-- the answer to a call, which needs a board
abbrev pub answered : BoardCall → Option AnyBoard → Result Answer Failure
answered call None = Err NoBoard
answered call (Some board) = Ok (answer_of call board)
