-- Cycles of the chip, at whose ends the interrupt input is sampled.
use Rattle.std.specs.Prelude.{ℕ, Bool, not, cond, ◌&&◌, ◌||◌}
use Rattle.part.specs.Rom.{copen}
use Rattle.timer.specs.Clock.{risen, risen_by}
use Rattle.chip.specs.declared.state.Chip.{Chip}
use Rattle.chip.specs.declared.state.Interrupt.{Interrupt}
use Rattle.chip.specs.State.{with_interrupt, with_timer}

-- a sample: going from not active to active sets the latch
abbrev pub sampled : Bool → Interrupt → Interrupt
sampled y i = record { enable = i.enable; latch = (y && not i.active) || i.latch; active = y }

-- one cycle at whose end the input is y; t rises unless it stands
abbrev pub ticked : Bool → Bool → Chip → Chip
ticked rises y s =
    with_timer (cond rises (risen (copen s.rom) s.timer) s.timer) (with_interrupt (sampled y s.interrupt) s)

-- n cycles of one sample
abbrev pub passed : Bool → Bool → ℕ → Chip → Chip
passed rises y n s =
    with_timer (cond rises (risen_by (copen s.rom) n s.timer) s.timer) (with_interrupt (sampled y s.interrupt) s)
