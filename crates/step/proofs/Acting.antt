-- An action keeps what every chip keeps.
use Rattle.std.proofs.Common.{◌≡◌, ℕ, ◌+◌, ◌%◌, ◌<◌, Bool, true, false, cond, not, eqb, List, [], ◌∷◌, Some, Option, sym, refl, subst, arith}
use Rattle.alu.specs.Condition.{condition_holds}
use Rattle.alu.specs.Modify.{modified_byte, modified_flags}
use Rattle.board.specs.declared.reading.Reading.{Reading}
use Rattle.chip.specs.declared.map.Location.{Location}
use Rattle.chip.specs.declared.map.Location.TheVariants.{PortA, PortB, DirectionA, DirectionB, TimerControl, TimerCounter, InterruptControl, PulldownA, PulldownB, Ram, Eprom, Service, Options, Vectors, Nothing}
use Rattle.chip.specs.declared.state.Chip.{Chip}
use Rattle.chip.specs.declared.state.Mode.{Mode}
use Rattle.chip.specs.declared.state.Mode.TheVariants.{Running, Waiting, Stopped}
use Rattle.chip.specs.declared.state.Registers.{Registers}
use Rattle.chip.specs.Map.{location_of}
use Rattle.chip.specs.Memory.{read, written, written_at}
use Rattle.chip.specs.Stack.{pushed, pulled, pulled_byte}
use Rattle.chip.specs.State.{with_registers, with_timer, with_mode, with_flags}
use Rattle.opcodes.specs.declared.addressing.Instruction.{Instruction as Instructions}
use Rattle.opcodes.specs.declared.addressing.Row.{Row}
use Rattle.opcodes.specs.declared.operation.Control.{Control as Controls}
use Rattle.opcodes.specs.declared.operation.Control.TheVariants.{Mul, Tax, Txa, Clc, Sec, Cli, Sei, Rsp, Nop, Rti, Rts, Swi, Stop, Wait}
use Rattle.opcodes.specs.declared.operation.Operation.{Operation}
use Rattle.opcodes.specs.declared.operation.Operation.TheVariants.{BranchIfSet, BranchIfClear, SetBit, ClearBit, Branch, Modify, Read, Store, Jump, Call, Control}
use Rattle.opcodes.specs.declared.operation.RegisterMemory.{RegisterMemory}
use Rattle.opcodes.specs.declared.operation.RegisterMemory.TheVariants.{Sub, Cmp, Sbc, Cpx, And, Bit, Lda, Eor, Adc, Ora, Add, Ldx}
use Rattle.part.specs.declared.layout.Vector.{Vector}
use Rattle.part.specs.declared.layout.Vector.TheVariants as vector
use Rattle.part.specs.Layout.{address_space, branch_target, executable}
use Rattle.part.specs.Rom.{vector_in, swait}
use Rattle.timer.specs.Control.{quieted, serviced}
use Rattle.execute.specs.declared.place.Place.{Place}
use Rattle.execute.specs.declared.place.Place.TheVariants.{Accumulator, Index, Immediate, Memory}
use Rattle.execute.specs.Place.{word, place_of, value_at, stored_at, address_in}
use Rattle.execute.specs.Registers.{register_of, tested, combined}
use Rattle.execute.specs.Entry.{at, pushed_all, return_bytes, entry_bytes, entered, returned, restored, unmasked, waited}
use Rattle.execute.specs.Perform.{bit_changed, branched_if, writes_back, controlled, performed_at}
use Rattle.execute.specs.Fetch.{past, executed_as}
use Rattle.step.specs.declared.action.Action.{Action}
use Rattle.step.specs.declared.action.Action.TheVariants.{External, Timer, Idle, IllegalAddress, Instruction}
use Rattle.step.specs.Action.{external_due, timer_due, rests, instruction_in, action_of, acted}
use Rattle.step.specs.Sound.{SoundRegisters, SoundPortB, SoundTimer, SoundStage, Sound, rest_test}

-- what a chip that runs keeps
abbrev Runs : Chip → Type 0
Runs s = SoundRegisters s.registers × SoundPortB s.ports.b × SoundTimer s.timer × SoundStage s.timer.stage s.rom × (s.mode ≡ Running)

runs_sound : (s : Chip) → Runs s → Sound s
runs_sound s h = (
  h.0,
  h.1,
  h.2,
  h.3,
  subst (λ k. rest_test k s.registers.flags.i s.interrupt.enable s.timer ≡ true) (sym h.4) refl,
)

services : (b : Bool) (s : Chip) → Runs s → Runs (with_timer (cond b (serviced s.timer) s.timer) s)
services true s h = (h.0, h.1, (h.2.0, h.2.1, omega arith), refl, h.4)
services false s h = h

at_location : (l : Location) (byte : ℕ) (s : Chip) → Runs s → Runs (written_at l byte s)
at_location PortA byte s h = h
at_location PortB byte s h = (h.0, (omega arith, h.1.1, h.1.2), h.2, h.3, h.4)
at_location DirectionA byte s h = h
at_location DirectionB byte s h = (h.0, (h.1.0, omega arith, h.1.2), h.2, h.3, h.4)
at_location TimerControl byte s h = (h.0, h.1, (h.2.0, omega arith, h.2.2), h.3, h.4)
at_location TimerCounter byte s h = h
at_location InterruptControl byte s h = h
at_location PulldownA byte s h = h
at_location PulldownB byte s h = (h.0, (h.1.0, h.1.1, omega arith), h.2, h.3, h.4)
at_location (Ram k) byte s h = h
at_location (Eprom k) byte s h = h
at_location Service byte s h = services (eqb (byte % 2) 0) s h
at_location Options byte s h = h
at_location (Vectors k) byte s h = h
at_location Nothing byte s h = h

writes : (a byte : ℕ) (s : Chip) → Runs s → Runs (written a byte s)
writes a byte s h = at_location (location_of a) byte s h

jumps : (pc : ℕ) (s : Chip) → Runs s → pc < address_space → Runs (at pc s)
jumps pc s h l = ((h.0.0, h.0.1, l), h.1, h.2, h.3, h.4)

branches : (taken : Bool) (offset : ℕ) (s : Chip) → Runs s → Runs (branched_if taken offset s)
branches true offset s h = jumps (branch_target s.registers.pc offset) s h (omega arith)
branches false offset s h = h

stores : (place : Place) (byte : ℕ) (s : Chip) → Runs s → Runs (stored_at place byte s)
stores Accumulator byte s h = h
stores Index byte s h = h
stores (Immediate b) byte s h = h
stores (Memory a) byte s h = writes a byte s h

modifies : (back : Bool) (place : Place) (byte : ℕ) (s : Chip) → Runs s → Runs (cond back (stored_at place byte s) s)
modifies true place byte s h = stores place byte s h
modifies false place byte s h = h

combines : (o : RegisterMemory) (byte : ℕ) (q : Registers) → SoundRegisters q → SoundRegisters (combined o byte q)
combines Sub byte q h = h
combines Cmp byte q h = h
combines Sbc byte q h = h
combines Cpx byte q h = h
combines And byte q h = h
combines Bit byte q h = h
combines Lda byte q h = h
combines Eor byte q h = h
combines Adc byte q h = h
combines Ora byte q h = h
combines Add byte q h = h
combines Ldx byte q h = h

pushes : (bytes : List ℕ) (s : Chip) → Runs s → Runs (pushed_all bytes s)
pushes [] s h = h
pushes (b ∷ bs) s h = pushes bs (pushed b s) ((omega arith, omega arith, h.0.2), h.1, h.2, h.3, h.4)

enters : (v : Vector) (s : Chip) → Runs s → Runs (entered v s)
enters v s h = jumps (vector_in v s.rom) (pushed_all (entry_bytes s) s) (pushes (entry_bytes s) s h) (omega arith)

pulls : (s : Chip) → Runs s → Runs (pulled s)
pulls s h = ((omega arith, omega arith, h.0.2), h.1, h.2, h.3, h.4)

returns : (s : Chip) → Runs s → Runs (returned s)
returns s h = jumps (word (pulled_byte s) (pulled_byte (pulled s)) % address_space) (pulled (pulled s)) (pulls (pulled s) (pulls s h)) (omega arith)

waits : (s : Chip) → Runs s → Sound (waited s)
waits s h = (h.0, h.1, h.2, h.3, refl)

stops : (b : Bool) (s : Chip) → Runs s → Sound (cond b (waited s) (with_mode Stopped (with_timer (quieted s.timer) (unmasked s))))
stops true s h = waits s h
stops false s h = (h.0, h.1, h.2, h.3, refl)

controls : (o : Controls) (s : Chip) → Runs s → Sound (controlled o s)
controls Mul s h = runs_sound (controlled Mul s) h
controls Tax s h = runs_sound (controlled Tax s) h
controls Txa s h = runs_sound (controlled Txa s) h
controls Clc s h = runs_sound (controlled Clc s) h
controls Sec s h = runs_sound (controlled Sec s) h
controls Cli s h = runs_sound (controlled Cli s) h
controls Sei s h = runs_sound (controlled Sei s) h
controls Rsp s h = runs_sound (controlled Rsp s) ((omega arith, omega arith, h.0.2), h.1, h.2, h.3, h.4)
controls Nop s h = runs_sound s h
controls Rti s h = runs_sound (controlled Rti s) (returns (restored s) (pulls (pulled (pulled s)) (pulls (pulled s) (pulls s h))))
controls Rts s h = runs_sound (controlled Rts s) (returns s h)
controls Swi s h = runs_sound (controlled Swi s) (enters vector.Swi s h)
controls Stop s h = stops (swait s.rom) s h
controls Wait s h = waits s h

-- all but WAIT and STOP leave the chip running
operates : (o : Operation) (place : Place) (first second : ℕ) (r : Reading) (s : Chip) → Runs s → Sound (performed_at o place first second r s)
operates (BranchIfSet n) place first second r s h =
    runs_sound (performed_at (BranchIfSet n) place first second r s) (branches _ second _ h)
operates (BranchIfClear n) place first second r s h =
    runs_sound (performed_at (BranchIfClear n) place first second r s) (branches _ second _ h)
operates (SetBit n) place first second r s h =
    runs_sound (performed_at (SetBit n) place first second r s) (writes first (bit_changed n true (read r first s)) s h)
operates (ClearBit n) place first second r s h =
    runs_sound (performed_at (ClearBit n) place first second r s) (writes first (bit_changed n false (read r first s)) s h)
operates (Branch k) place first second r s h =
    runs_sound (performed_at (Branch k) place first second r s) (branches (condition_holds k s.registers.flags (not (eqb r.irq 0))) first s h)
operates (Modify o) place first second r s h =
    let byte : ℕ = value_at place r s in
    let flags = modified_flags o s.registers.flags byte in
    runs_sound (performed_at (Modify o) place first second r s)
    (modifies (writes_back o) place (modified_byte o s.registers.flags byte) (with_registers (with_flags flags s.registers) s) h)
operates (Read o) place first second r s h =
    runs_sound (performed_at (Read o) place first second r s) (combines o (value_at place r s) s.registers h.0, h.1, h.2, h.3, h.4)
operates (Store register) place first second r s h =
    let byte : ℕ = register_of register s.registers in
    runs_sound (performed_at (Store register) place first second r s) (stores place byte (with_registers (tested byte s.registers) s) h)
operates Jump place first second r s h = runs_sound (performed_at Jump place first second r s) (jumps (address_in place % address_space) s h (omega arith))
operates Call place first second r s h =
    runs_sound (performed_at Call place first second r s)
    (jumps (address_in place % address_space) (pushed_all (return_bytes s) s) (pushes (return_bytes s) s h) (omega arith))
operates (Control o) place first second r s h = controls o s h

executes : (row : Row) (first second : ℕ) (r : Reading) (s : Chip) → Runs s → Sound (executed_as row first second r s)
executes row first second r s h =
    operates row.operation (place_of row.addressing (past row s).registers first second) first second r (past row s)
    (jumps ((s.registers.pc + row.length) % address_space) s h (omega arith))

-- an instruction comes only where the chip neither enters nor rests
active : (e t rest x : Bool) (o : Option Action) (i : Instructions)
    → cond e (Some External) (cond t (Some Timer) (cond rest (Some Idle) (cond x o (Some IllegalAddress)))) ≡ Some (Instruction i) → rest ≡ false
active true t rest x o i h = cc
active false true rest x o i h = cc
active false false true x o i h = cc
active false false false x o i h = refl

running : (k : Mode) → rests k ≡ false → k ≡ Running
running Running e = refl
running Waiting e = cc
running Stopped e = cc

-- an action keeps what every chip keeps
pub acting_sound : (a : Action) (r : Reading) (s : Chip) → action_of r s ≡ Some a → Sound s → Sound (acted a r s)
acting_sound External r s e h = runs_sound (acted External r s) (enters vector.External (with_mode Running s) (h.0, h.1, h.2, h.3, refl))
acting_sound Timer r s e h = runs_sound (acted Timer r s) (enters vector.Timer (with_mode Running s) (h.0, h.1, h.2, h.3, refl))
acting_sound Idle r s e h = h
acting_sound IllegalAddress r s e h = h
acting_sound (Instruction i) r s e h =
    let still = active (external_due s) (timer_due s) (rests s.mode) (executable s.registers.pc) (instruction_in r s) i e in
    executes i.row i.first i.second r s (h.0, h.1, h.2, h.3, running s.mode still)
