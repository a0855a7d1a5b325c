-- What a board of any kind means: what its kind means.
use Rattle.std.specs.Prelude.{ℕ}
use Rattle.board.specs.declared.reading.Reading.{Reading}
use Rattle.board.specs.declared.reading.Outputs.{Outputs}
use Rattle.board.specs.declared.any.AnyBoard.{AnyBoard}
use Rattle.board.specs.declared.any.AnyBoard.TheVariants.{Switches, Schedule, Matrix}
use Rattle.board.specs.Switches.{switches_shows, switches_advanced, switches_told}
use Rattle.board.specs.Schedule.{schedule_shows, schedule_advanced, schedule_told, schedule_quiet}
use Rattle.board.specs.Matrix.{matrix_shows, matrix_advanced, matrix_told}

-- what its kind shows
abbrev pub any_shows : AnyBoard → ℕ → Reading
any_shows (Switches s) n = switches_shows s n
any_shows (Schedule s) n = schedule_shows s n
any_shows (Matrix m) n = matrix_shows m n

-- later by n cycles, of the same kind
abbrev pub any_advanced : AnyBoard → ℕ → AnyBoard
any_advanced (Switches s) n = Switches (switches_advanced s n)
any_advanced (Schedule s) n = Schedule (schedule_advanced s n)
any_advanced (Matrix m) n = Matrix (matrix_advanced m n)

-- told these outputs, of the same kind
abbrev pub any_told : AnyBoard → Outputs → AnyBoard
any_told (Switches s) o = Switches (switches_told s o)
any_told (Schedule s) o = Schedule (schedule_told s o)
any_told (Matrix m) o = Matrix (matrix_told m o)

-- what its kind answers to the question for how long it is quiet
abbrev pub any_quiet : AnyBoard → ℕ
any_quiet (Switches s) = 65535
any_quiet (Schedule s) = schedule_quiet s
any_quiet (Matrix m) = 65535
