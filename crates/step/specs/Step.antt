-- One step of a chip on its board.
use Rattle.std.specs.Prelude.{ℕ, Bool, cond, ◌&&◌, List, Some, None, Option, ◌==◌, nat_le}
use Rattle.board.specs.declared.contract.Board.{Ghosts}
use Rattle.board.specs.declared.reading.Reading.{Reading}
use Rattle.board.specs.declared.reading.Outputs.{Outputs}
use Rattle.chip.specs.declared.state.Chip.{Chip}
use Rattle.chip.specs.Memory.{read}
use Rattle.chip.specs.Pins.{outputs}
use Rattle.chip.specs.Reset.{reset}
use Rattle.cycles.specs.Cycles.{cycled, samples}
use Rattle.writes.specs.Writes.{Writes}
use Rattle.step.specs.declared.action.Action.{Action}
use Rattle.step.specs.declared.answer.ResetCause.{ResetCause}
use Rattle.step.specs.declared.answer.ResetCause.TheVariants as cause
use Rattle.step.specs.declared.answer.StepAnswer.{StepAnswer}
use Rattle.step.specs.Action.{action_of, kind_in, cost_of, raises_clock, is_illegal, acted, action_writes}

abbrev pub same_outputs : Outputs → Outputs → Bool
same_outputs o q =
    (o.direction_a == q.direction_a) && (o.driven_a == q.driven_a
    && (o.direction_b == q.direction_b && o.driven_b == q.driven_b))

-- the board once it is told outputs that are altered
abbrev pub informed : {B : Type 0} → Ghosts B → Outputs → Outputs → B → B
informed m old new b = cond (same_outputs old new) b (m.told b new)

-- stage 8 is a watchdog reset; otherwise an illegal address resets
abbrev pub cause_of : Action → ℕ → ResetCause
cause_of a stage = cond (nat_le 8 stage) cause.Watchdog (cond (is_illegal a) cause.IllegalAddress cause.None)

abbrev pub reset_by : ResetCause → Chip → Chip
reset_by cause.None s = s
reset_by cause.IllegalAddress s = reset s
reset_by cause.Watchdog s = reset s

-- a step that was made: what it answers; the code at PC, the writes and the samples; chip and board as its cycles begin; chip and board after it
pub record Stepped (B : Type 0) : Type 0 where
  pub answer : StepAnswer
  pub code : ℕ
  pub writes : Writes
  pub samples : List Bool
  pub acting : Chip
  pub told : B
  pub chip : Chip
  pub board : B

-- the reset that is due after the cycles, told where it alters outputs
abbrev pub closed : {B : Type 0} → Ghosts B → ResetCause → Chip → B → Chip × B
closed m c s b = (reset_by c s, informed m (outputs s) (outputs (reset_by c s)) b)

-- the action; altered outputs are told; the cycles; the reset
unfoldable pub worked : {B : Type 0} → Ghosts B → Action → Reading → Chip → B → Stepped B
worked {B} m a r s b =
    let acting : Chip = acted a r s in
    let told : B = informed m (outputs s) (outputs acting) b in
    let passed : Chip × B = cycled m (raises_clock a s.mode) (cost_of a) acting told in
    let due : ResetCause = cause_of a passed.0.timer.stage in
    record {
      answer = record { kind = kind_in a; cost = cost_of a; reset = due };
      code = read r s.registers.pc s;
      writes = action_writes a r s;
      samples = samples m (cost_of a) acting told;
      acting = acting;
      told = told;
      chip = (closed m due passed.0 passed.1).0;
      board = (closed m due passed.0 passed.1).1;
    }

abbrev pub worked_by : {B : Type 0} → Ghosts B → Option Action → Reading → Chip → B → Option (Stepped B)
worked_by m None r s b = None
worked_by m (Some a) r s b = Some (worked m a r s b)

-- a step, or none at a code without an instruction
unfoldable pub stepped : {B : Type 0} → Ghosts B → Chip → B → Option (Stepped B)
stepped m s b = worked_by m (action_of (m.shows b 0) s) (m.shows b 0) s b

-- what is seen of a step: its answer, and chip and board after it
abbrev pub shown : {B : Type 0} → Stepped B → StepAnswer × (Chip × B)
shown x = (x.answer, (x.chip, x.board))

-- the same, where there may be none and nothing is altered
abbrev pub answered : {B : Type 0} → Option (Stepped B) → Chip → B → Option StepAnswer × (Chip × B)
answered None s b = (None, (s, b))
answered (Some x) s b = (Some x.answer, (x.chip, x.board))
