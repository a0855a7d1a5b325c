-- The board that stands for a schedule.
use Rattle.std.proofs.Common.{◌≡◌, Ok, Err, Result, IsOkAnd, MatchResult, ap}
use Rattle.board.specs.declared.refused.BadEntry.{BadEntry}
use Rattle.board.specs.declared.schedule.Schedule.{Schedule as ScheduleBoard}
use Rattle.board.specs.declared.any.AnyBoard.{AnyBoard}
use Rattle.board.specs.declared.any.AnyBoard.TheVariants.{Schedule}
use Rattle.session.specs.Boards.{as_schedule}

pub as_any : (made : Result ScheduleBoard BadEntry) (board : Result AnyBoard BadEntry) → MatchResult made (λ s. IsOkAnd board (λ b. b ≡ Schedule s)) (λ bad. board ≡ Err bad) → board ≡ as_schedule made
as_any (Ok s) (Ok b) e = ap Ok e
as_any (Ok s) (Err bad) e = absurd e
as_any (Err bad) board e = e
