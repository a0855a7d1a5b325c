-- What a machine holds.
use Rattle.std.specs.Prelude.{ℕ, Bool}
use Rattle.chip.specs.declared.state.Chip.{Chip}
use Rattle.machine.specs.declared.machine.Machine.{Machine}

-- the chip, the cycles counted, whether there is an image, and the board
pub record State (B : Type 0) : Type 0 where
  pub chip : Chip
  pub total : ℕ
  pub loaded : Bool
  pub board : B

abbrev pub state : {B : Type 0} → Machine B → State B
state m = record { chip = m.fitted.chip; total = m.total; loaded = m.loaded; board = m.fitted.board }
