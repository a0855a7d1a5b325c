-- The chips that the cases start from, and what they look at.
use Rattle.std.specs.Prelude.{ℕ, Bool, true, false, List, [], ◌∷◌, Some, None, Option}
use Rattle.alu.specs.declared.flags.Flags.{Flags}
use Rattle.alu.specs.Flags.{with_i}
use Rattle.board.specs.declared.reading.Reading.{Reading}
use Rattle.chip.specs.declared.state.Chip.{Chip}
use Rattle.chip.specs.declared.state.Mode.TheVariants.{Running}
use Rattle.chip.specs.declared.state.Registers.{Registers}
use Rattle.chip.specs.Memory.{read}
use Rattle.chip.specs.State.{with_registers, with_timer, with_mode, with_rom, with_pc, with_flags}
use Rattle.step.specs.declared.answer.ResetCause.{ResetCause}
use Rattle.step.specs.declared.answer.ResetCause.TheVariants as cause
use Rattle.step.specs.Step.{Stepped}
use Rattle.timer.specs.declared.state.Timer.{Timer}

-- H, I, N, Z and C
abbrev pub hinzc : Bool → Bool → Bool → Bool → Bool → Flags
hinzc h i n z c = record { h = h; i = i; n = n; z = z; c = c }

-- A, X, SP, PC and the flags
abbrev pub holding : ℕ → ℕ → ℕ → ℕ → Flags → Registers
holding a x sp pc f = record { a = a; x = x; sp = sp; pc = pc; flags = f }

-- the chip, running with these registers, and with these bytes from $0300 on; the rest of its image is 0, so the watchdog is off
abbrev pub coded : List ℕ → Registers → Chip → Chip
coded code q s = with_mode Running (with_rom (record { eprom = code; options = 0; vectors = [] }) (with_registers q s))

-- the chip as it is about to do a NOP, with I set: the timer is at t, its stage 0
abbrev pub before_nop : ℕ → Registers → Chip → Chip
before_nop t q s =
    let k : Timer = s.timer in
    with_timer (record { t = t; tof = k.tof; rtif = k.rtif; toie = k.toie; rtie = k.rtie; rate = k.rate; stage = 0 })
    (coded (0x9d ∷ []) (with_flags (with_i q.flags true) (with_pc 0x300 q)) s)

-- after a step, where one was made: what $0009 reads, and TOF
abbrev pub counter_after : {B : Type 0} → Reading → Option (Stepped B) → Option (ℕ × Bool)
counter_after r None = None
counter_after r (Some x) = Some (read r 0x0009 x.chip, x.chip.timer.tof)

abbrev pub by_watchdog : ResetCause → Bool
by_watchdog cause.None = false
by_watchdog cause.IllegalAddress = false
by_watchdog cause.Watchdog = true
