-- What questions to a machine answer.
use Rattle.std.specs.Prelude.{ℕ}
use Rattle.board.specs.declared.contract.Board.{Ghosts}
use Rattle.chip.specs.Memory.{read}
use Rattle.chip.specs.Pins.{pins_a, pins_b}
use Rattle.machine.specs.declared.answer.Pins.{Pins}
use Rattle.machine.specs.State.{State}

-- the levels of the pins, by what the board shows now
abbrev pub pins_now : {B : Type 0} → Ghosts B → State B → Pins
pins_now m s = record { a = pins_a (m.shows s.board 0) s.chip; b = pins_b (m.shows s.board 0) s.chip; irq = (m.shows s.board 0).irq }

-- what a read answers now
abbrev pub peeked : {B : Type 0} → Ghosts B → ℕ → State B → ℕ
peeked m address s = read (m.shows s.board 0) address s.chip
