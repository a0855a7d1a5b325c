-- Calls, interrupt entries, returns, and the modes that wait for an interrupt.
use Rattle.std.specs.Prelude.{ℕ, ◌/◌, ◌%◌, Bool, true, false, cond, List, [], ◌∷◌}
use Rattle.alu.specs.Flags.{condition_byte, flags_in, with_i}
use Rattle.chip.specs.declared.state.Chip.{Chip}
use Rattle.chip.specs.declared.state.Mode.TheVariants.{Running, Waiting, Stopped}
use Rattle.chip.specs.Stack.{pushed, pulled, pulled_byte}
use Rattle.chip.specs.State.{with_registers, with_timer, with_interrupt, with_mode, with_pc, with_flags, with_a, with_x, with_enable, with_edge}
use Rattle.part.specs.declared.layout.Vector.{Vector}
use Rattle.part.specs.declared.layout.Vector.TheVariants.{Timer, External}
use Rattle.part.specs.Layout.{address_space}
use Rattle.part.specs.Rom.{vector_in, swait}
use Rattle.timer.specs.Control.{quieted}
use Rattle.execute.specs.Place.{word}

-- the program counter, the flags, A and X replaced
abbrev pub at : ℕ → Chip → Chip
at pc s = with_registers (with_pc pc s.registers) s

abbrev pub masked : Bool → Chip → Chip
masked mask s = with_registers (with_flags (with_i s.registers.flags mask) s.registers) s

-- bytes pushed one after the other
abbrev pub pushed_all : List ℕ → Chip → Chip
pushed_all [] s = s
pushed_all (b ∷ bs) s = pushed_all bs (pushed b s)

-- what a call pushes: the program counter, low byte first
abbrev pub return_bytes : Chip → List ℕ
return_bytes s = s.registers.pc % 256 ∷ s.registers.pc / 256 ∷ []

-- what an entry pushes: the program counter, X, A and the condition byte
abbrev pub entry_bytes : Chip → List ℕ
entry_bytes s = s.registers.pc % 256 ∷ s.registers.pc / 256 ∷ s.registers.x ∷ s.registers.a ∷ condition_byte s.registers.flags ∷ []

abbrev pub called : ℕ → Chip → Chip
called to s = at to (pushed_all (return_bytes s) s)

-- registers pushed, I set, and the vector taken
abbrev pub entered : Vector → Chip → Chip
entered v s = at (vector_in v s.rom) (masked true (pushed_all (entry_bytes s) s))

-- an external entry clears the latch; it and a timer entry set the chip running
abbrev pub entered_external : Chip → Chip
entered_external s = with_mode Running (with_interrupt (with_edge false s.interrupt) (entered External s))

abbrev pub entered_timer : Chip → Chip
entered_timer s = with_mode Running (entered Timer s)

-- the program counter pulled, high byte first
abbrev pub returned : Chip → Chip
returned s = at (word (pulled_byte s) (pulled_byte (pulled s)) % address_space) (pulled (pulled s))

-- condition byte, A and X pulled
abbrev pub restored : Chip → Chip
restored s =
    let once : Chip = pulled s in
    let twice : Chip = pulled once in
    with_registers (with_x (pulled_byte twice) (with_a (pulled_byte once) (with_flags (flags_in (pulled_byte s)) (pulled twice).registers))) (pulled twice)

-- RTI
abbrev pub resumed : Chip → Chip
resumed s = returned (restored s)

-- I clear and IRQE set
abbrev pub unmasked : Chip → Chip
unmasked s = with_interrupt (with_enable true s.interrupt) (masked false s)

-- WAIT
abbrev pub waited : Chip → Chip
waited s = with_mode Waiting (unmasked s)

-- STOP, which clears the timer's flags and enables; with SWAIT it is WAIT
abbrev pub stopped : Chip → Chip
stopped s = cond (swait s.rom) (waited s) (with_mode Stopped (with_timer (quieted s.timer) (unmasked s)))
