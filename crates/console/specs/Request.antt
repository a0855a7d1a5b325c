-- What a line calls for where no machine is offered.
use Rattle.std.specs.Prelude.{◌≡◌, ℕ, List, Some, Ok, Err, Option, Result, refl}
use Rattle.std.specs.Option.{option_map}
use Rattle.board.specs.declared.any.AnyBoard.{AnyBoard}
use Rattle.board.specs.declared.refused.BadEntry.{BadEntry}
use Rattle.script.specs.declared.call.Purpose.{Purpose}
use Rattle.script.specs.declared.call.Purpose.TheVariants.{NewMachine, Replacement, Alone}
use Rattle.session.specs.declared.answer.Answer.TheVariants.{Done}
use Rattle.session.specs.declared.failure.Failure.{Failure}
use Rattle.session.specs.declared.failure.Failure.TheVariants.{NotOffered, Board}
use Rattle.session.specs.declared.reply.Reply.{Reply}
use Rattle.session.specs.declared.reply.Reply.TheVariants as reply
use Rattle.session.specs.declared.session.Session.{Session}
use Rattle.session.specs.Alone.{placed_reply}
use Rattle.session.specs.Session.{Outcome, replied, LineRead}
use Rattle.console.specs.declared.request.Request.{Request}
use Rattle.console.specs.declared.request.Request.TheVariants.{Said, Listing}

-- a board for a new machine is answered, and goes no further
abbrev pub requested : Reply → Request
requested (reply.Said answer) = Said answer
requested reply.Listing = Listing
requested (reply.Begin board) = Said Done

abbrev pub each_requested : Outcome → Result (Option Request) Failure
each_requested (Ok r) = Ok (option_map requested r)
each_requested (Err failure) = Err failure

-- what one line does
abbrev pub LineHeard : List ℕ → Session → Result (Option Request) Failure → Session → Type 0
LineHeard line old request new = (reply : Outcome) × LineRead line old reply new × (request ≡ each_requested reply)

-- the answer to a board that was made, for whatever it was made
abbrev pub made_answer : Result AnyBoard BadEntry → Result (Option Request) Failure
made_answer (Ok board) = Ok (Some (Said Done))
made_answer (Err bad) = Err (Board bad)

-- no machine is offered, so no board can be put in place of its own
abbrev pub placed_answer : Purpose → Result AnyBoard BadEntry → Result (Option Request) Failure
placed_answer NewMachine made = made_answer made
placed_answer Replacement made = Err NotOffered
placed_answer Alone made = made_answer made

-- what a line calls for that puts a board in its place
abbrev pub BoardsAnswered : Type 0
BoardsAnswered = (purpose : Purpose) (made : Result AnyBoard BadEntry) → each_requested (replied (placed_reply purpose made)) ≡ placed_answer purpose made

pub placed_answered : BoardsAnswered
placed_answered NewMachine (Ok board) = refl
placed_answered NewMachine (Err bad) = refl
placed_answered Replacement made = refl
placed_answered Alone (Ok board) = refl
placed_answered Alone (Err bad) = refl
