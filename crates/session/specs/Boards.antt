-- The boards that a script describes.
use Rattle.std.specs.Prelude.{◌≡◌, ℕ, List, Ok, Err, Result}
use Rattle.std.specs.Borrow.{Bor}
use Rattle.board.specs.declared.reading.Reading.{Reading}
use Rattle.board.specs.declared.refused.BadEntry.{BadEntry}
use Rattle.board.specs.declared.schedule.Entry.{Entry}
use Rattle.board.specs.declared.switches.Switches.{Switches as SwitchBoard}
use Rattle.board.specs.declared.schedule.Schedule.{Schedule as ScheduleBoard}
use Rattle.board.specs.declared.any.AnyBoard.{AnyBoard}
use Rattle.board.specs.declared.any.AnyBoard.TheVariants.{Switches, Schedule, Matrix}
use Rattle.board.specs.Switches.{switches_of}
use Rattle.board.specs.Matrix.{matrix_of}
use Rattle.board.specs.Schedule.{schedule_of}

abbrev pub as_switches : Result SwitchBoard BadEntry → Result AnyBoard BadEntry
as_switches (Ok s) = Ok (Switches s)
as_switches (Err bad) = Err bad

abbrev pub switches_made : Reading → Result AnyBoard BadEntry
switches_made reading = as_switches (switches_of reading)

abbrev pub matrix_made : ℕ → Result AnyBoard BadEntry
matrix_made keys = Ok (Matrix (matrix_of keys))

abbrev pub as_schedule : Result ScheduleBoard BadEntry → Result AnyBoard BadEntry
as_schedule (Ok s) = Ok (Schedule s)
as_schedule (Err bad) = Err bad

-- the schedule of these entries, wherever they lie
abbrev pub ScheduleMade : List Entry → Result AnyBoard BadEntry → Type 0
ScheduleMade entries board = (kept : Bor (List Entry)) × (kept.now ≡ entries) × (board ≡ as_schedule (schedule_of kept))
