-- What an instruction and an entry write, in order, and that the ports, the timer, the interrupt and RAM change by nothing else.
use Rattle.std.specs.Prelude.{◌≡◌, ℕ, ◌<◌, ◌≤◌, true, false, cond, List, [], ◌∷◌, Some, None, Option}
use Rattle.alu.specs.Modify.{modified_byte}
use Rattle.board.specs.declared.reading.Reading.{Reading}
use Rattle.chip.specs.declared.state.Chip.{Chip}
use Rattle.chip.specs.declared.state.Interrupt.{Interrupt}
use Rattle.chip.specs.declared.state.Ports.{Ports}
use Rattle.chip.specs.Memory.{read, written}
use Rattle.chip.specs.Stack.{lowered}
use Rattle.chip.specs.State.{with_interrupt, with_edge}
use Rattle.opcodes.specs.declared.addressing.Row.{Row}
use Rattle.opcodes.specs.declared.operation.Control.{Control as Controls}
use Rattle.opcodes.specs.declared.operation.Control.TheVariants.{Mul, Tax, Txa, Clc, Sec, Cli, Sei, Rsp, Nop, Rti, Rts, Swi, Stop, Wait}
use Rattle.opcodes.specs.declared.operation.Operation.{Operation}
use Rattle.opcodes.specs.declared.operation.Operation.TheVariants.{BranchIfSet, BranchIfClear, SetBit, ClearBit, Branch, Modify, Read, Store, Jump, Call, Control}
use Rattle.opcodes.specs.Map.{row_of}
use Rattle.timer.specs.declared.state.Timer.{Timer}
use Rattle.execute.specs.declared.fetch.Fetched.{Fetched}
use Rattle.execute.specs.declared.place.Place.{Place}
use Rattle.execute.specs.declared.place.Place.TheVariants.{Accumulator, Index, Immediate, Memory}
use Rattle.execute.specs.Place.{place_of, value_at}
use Rattle.execute.specs.Registers.{register_of}
use Rattle.execute.specs.Entry.{return_bytes, entry_bytes, entered_external, entered_timer, waited, stopped}
use Rattle.execute.specs.Perform.{bit_changed, writes_back}
use Rattle.execute.specs.Fetch.{fetched, past, executed}

-- addresses and bytes, first write first
abbrev pub Writes : Type 0
Writes = List (ℕ × ℕ)

-- bytes pushed from a stack pointer on
abbrev pub pushes : ℕ → List ℕ → Writes
pushes sp [] = []
pushes sp (b ∷ bs) = (sp, b) ∷ pushes (lowered sp) bs

-- a byte stored at a place
abbrev pub place_writes : Place → ℕ → Writes
place_writes Accumulator byte = []
place_writes Index byte = []
place_writes (Immediate b) byte = []
place_writes (Memory at) byte = (at, byte) ∷ []

abbrev pub control_writes : Controls → Chip → Writes
control_writes Mul s = []
control_writes Tax s = []
control_writes Txa s = []
control_writes Clc s = []
control_writes Sec s = []
control_writes Cli s = []
control_writes Sei s = []
control_writes Rsp s = []
control_writes Nop s = []
control_writes Rti s = []
control_writes Rts s = []
control_writes Swi s = pushes s.registers.sp (entry_bytes s)
control_writes Stop s = []
control_writes Wait s = []

abbrev pub operation_writes : Operation → Place → ℕ → Reading → Chip → Writes
operation_writes (BranchIfSet n) place first r s = []
operation_writes (BranchIfClear n) place first r s = []
operation_writes (SetBit n) place first r s = (first, bit_changed n true (read r first s)) ∷ []
operation_writes (ClearBit n) place first r s = (first, bit_changed n false (read r first s)) ∷ []
operation_writes (Branch k) place first r s = []
operation_writes (Modify o) place first r s = cond (writes_back o) (place_writes place (modified_byte o s.registers.flags (value_at place r s))) []
operation_writes (Read o) place first r s = []
operation_writes (Store register) place first r s = place_writes place (register_of register s.registers)
operation_writes Jump place first r s = []
operation_writes Call place first r s = pushes s.registers.sp (return_bytes s)
operation_writes (Control o) place first r s = control_writes o s

-- what the instruction of a row writes, with PC past it
abbrev pub row_writes : Row → ℕ → ℕ → Reading → Chip → Writes
row_writes row first second r s =
    operation_writes row.operation (place_of row.addressing s.registers first second) first r s

abbrev pub writes_by : Option Row → Fetched → Reading → Chip → Writes
writes_by None f r s = []
writes_by (Some row) f r s = row_writes row f.first f.second r (past row s)

-- what the instruction at the program counter writes
unfoldable pub instruction_writes : Reading → Chip → Writes
instruction_writes r s = writes_by (row_of (fetched r s).code) (fetched r s) r s

-- what an interrupt's entry writes
abbrev pub entry_writes : Chip → Writes
entry_writes s = pushes s.registers.sp (entry_bytes s)

-- the chip once these were written
abbrev pub applied : Writes → Chip → Chip
applied [] s = s
applied (w ∷ ws) s = applied ws (written w.0 w.1 s)

-- what WAIT and STOP do besides
abbrev pub rested_by : Controls → Chip → Chip
rested_by Mul s = s
rested_by Tax s = s
rested_by Txa s = s
rested_by Clc s = s
rested_by Sec s = s
rested_by Cli s = s
rested_by Sei s = s
rested_by Rsp s = s
rested_by Nop s = s
rested_by Rti s = s
rested_by Rts s = s
rested_by Swi s = s
rested_by Stop s = stopped s
rested_by Wait s = waited s

abbrev pub rested : Operation → Chip → Chip
rested (BranchIfSet n) s = s
rested (BranchIfClear n) s = s
rested (SetBit n) s = s
rested (ClearBit n) s = s
rested (Branch k) s = s
rested (Modify o) s = s
rested (Read o) s = s
rested (Store register) s = s
rested Jump s = s
rested Call s = s
rested (Control o) s = rested_by o s

abbrev pub rested_row : Option Row → Chip → Chip
rested_row None s = s
rested_row (Some row) s = rested row.operation s

-- all of the chip but registers, mode and image
pub record Peripherals : Type 0 where
  pub ports : Ports
  pub timer : Timer
  pub interrupt : Interrupt
  pub ram : List ℕ

abbrev pub peripherals : Chip → Peripherals
peripherals s = record { ports = s.ports; timer = s.timer; interrupt = s.interrupt; ram = s.ram }

-- the stack pointer lies in RAM
abbrev pub InStack : Chip → Type 0
InStack s = (192 ≤ s.registers.sp) × (s.registers.sp < 256)

-- ports, timer, interrupt and RAM come of the writes alone, but for WAIT and STOP and the latch that an external entry clears; the image never changes
pub record WritesTell : Type 0 where
  pub instruction : (r : Reading) (s : Chip) → InStack s
      → peripherals (executed r s) ≡ peripherals (rested_row (row_of (fetched r s).code) (applied (instruction_writes r s) s))
  pub external : (s : Chip) → InStack s → peripherals (entered_external s) ≡ peripherals (with_interrupt (with_edge false s.interrupt) (applied (entry_writes s) s))
  pub timer : (s : Chip) → InStack s → peripherals (entered_timer s) ≡ peripherals (applied (entry_writes s) s)
  pub image : (r : Reading) (s : Chip) → (executed r s).rom ≡ s.rom
