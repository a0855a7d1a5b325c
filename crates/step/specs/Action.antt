-- What a step will do.
use Rattle.std.specs.Prelude.{ℕ, ◌≤◌, Bool, true, false, cond, not, ◌&&◌, [], Some, None, Option}
use Rattle.board.specs.declared.reading.Reading.{Reading}
use Rattle.chip.specs.declared.state.Chip.{Chip}
use Rattle.chip.specs.declared.state.Mode.{Mode}
use Rattle.chip.specs.declared.state.Mode.TheVariants.{Running, Waiting, Stopped}
use Rattle.chip.specs.Pins.{requested}
use Rattle.execute.specs.declared.fetch.Fetched.{Fetched}
use Rattle.execute.specs.Entry.{entered_external, entered_timer}
use Rattle.execute.specs.Fetch.{fetched, past, executed_as}
use Rattle.opcodes.specs.declared.addressing.Row.{Row}
use Rattle.opcodes.specs.Map.{row_of}
use Rattle.part.specs.Layout.{executable}
use Rattle.timer.specs.Control.{requests}
use Rattle.writes.specs.Writes.{Writes, entry_writes, row_writes}
use Rattle.step.specs.declared.action.Action.{Action}
use Rattle.step.specs.declared.action.Action.TheVariants.{External, Timer, Idle, IllegalAddress, Instruction}
use Rattle.step.specs.declared.answer.Kind.{Kind}
use Rattle.step.specs.declared.answer.Kind.TheVariants as kind

-- I clear, IRQE and IRQF
abbrev pub external_due : Chip → Bool
external_due s = not s.registers.flags.i && (s.interrupt.enable && requested s)

-- I clear and a request of the timer
abbrev pub timer_due : Chip → Bool
timer_due s = not s.registers.flags.i && requests s.timer

-- waiting or stopped
abbrev pub rests : Mode → Bool
rests Running = false
rests Waiting = true
rests Stopped = true

-- an instruction, where the code has one
abbrev pub instruction_by : Option Row → Fetched → Option Action
instruction_by None f = None
instruction_by (Some row) f = Some (Instruction (record { row = row; first = f.first; second = f.second }))

abbrev pub instruction_in : Reading → Chip → Option Action
instruction_in r s = instruction_by (row_of (fetched r s).code) (fetched r s)

-- the first that applies: an external entry, a timer entry, idling, an illegal address, an instruction
abbrev pub action_of : Reading → Chip → Option Action
action_of r s =
    cond (external_due s) (Some External)
    (cond (timer_due s) (Some Timer)
    (cond (rests s.mode) (Some Idle)
    (cond (executable s.registers.pc) (instruction_in r s)
    (Some IllegalAddress))))

abbrev pub kind_in : Action → Kind
kind_in External = kind.External
kind_in Timer = kind.Timer
kind_in Idle = kind.Idle
kind_in IllegalAddress = kind.IllegalAddress
kind_in (Instruction i) = kind.Instruction

abbrev pub cost_of : Action → ℕ
cost_of External = 10
cost_of Timer = 10
cost_of Idle = 1
cost_of IllegalAddress = 2
cost_of (Instruction i) = i.row.cycles

abbrev pub stopped : Mode → Bool
stopped Running = false
stopped Waiting = false
stopped Stopped = true

-- t stands while a stopped chip idles
abbrev pub raises_clock : Action → Mode → Bool
raises_clock External m = true
raises_clock Timer m = true
raises_clock Idle m = not (stopped m)
raises_clock IllegalAddress m = true
raises_clock (Instruction i) m = true

abbrev pub is_illegal : Action → Bool
is_illegal External = false
is_illegal Timer = false
is_illegal Idle = false
is_illegal IllegalAddress = true
is_illegal (Instruction i) = false

-- the chip before its cycles
abbrev pub acted : Action → Reading → Chip → Chip
acted External r s = entered_external s
acted Timer r s = entered_timer s
acted Idle r s = s
acted IllegalAddress r s = s
acted (Instruction i) r s = executed_as i.row i.first i.second r s

-- what was written
unfoldable pub action_writes : Action → Reading → Chip → Writes
action_writes External r s = entry_writes s
action_writes Timer r s = entry_writes s
action_writes Idle r s = []
action_writes IllegalAddress r s = []
action_writes (Instruction i) r s = row_writes i.row i.first i.second r (past i.row s)

-- an action takes 1 to 11 cycles
abbrev pub Affordable : Option Action → Type 0
Affordable None = Unit {0}
Affordable (Some a) = (1 ≤ cost_of a) × (cost_of a ≤ 11)
