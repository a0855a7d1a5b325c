-- Cycles of a chip on its board.
use Rattle.std.specs.Prelude.{ℕ, zero, suc, ◌+◌, ◌<◌, Bool, List, [], ◌∷◌}
use Rattle.board.specs.declared.contract.Board.{Ghosts}
use Rattle.chip.specs.declared.state.Chip.{Chip}
use Rattle.chip.specs.Cycle.{ticked}
use Rattle.chip.specs.Pins.{active}
use Rattle.timer.specs.declared.state.Timer.{Timer}
use Rattle.timer.specs.Clock.{clock_span}

-- n cycles: each advances the board, samples the pins and, unless it stands, raises t
unfoldable pub cycled : {B : Type 0} → Ghosts B → Bool → ℕ → Chip → B → Chip × B
cycled m rises zero s b = (s, b)
cycled m rises (suc n) s b = cycled m rises n (ticked rises (active (m.shows (m.advanced b 1) 0) s) s) (m.advanced b 1)

-- what n cycles sample, first cycle first: whether the input is active by what the board shows after 1 to n cycles
unfoldable pub samples_from : {B : Type 0} → Ghosts B → ℕ → ℕ → Chip → B → List Bool
samples_from m k zero s b = []
samples_from m k (suc n) s b = active (m.shows b (suc k)) s ∷ samples_from m (suc k) n s b

abbrev pub samples : {B : Type 0} → Ghosts B → ℕ → Chip → B → List Bool
samples m n s b = samples_from m 0 n s b

-- t and rate are in range, and the stage has room for a tap in each of n cycles
abbrev pub Room : Timer → ℕ → Type 0
Room m n = (m.t < clock_span) × (m.rate < 4) × (m.stage + n < 255)
