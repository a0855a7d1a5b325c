-- New, load and step.
use Rattle.std.specs.Prelude.{ℕ, ◌+◌, Bool, true, false, cond, List, Some, None, Ok, Err, Option, Result, nat_lt}
use Rattle.board.specs.declared.contract.Board.{Ghosts}
use Rattle.chip.specs.declared.state.Chip.{Chip}
use Rattle.chip.specs.Pins.{active, outputs}
use Rattle.chip.specs.Reset.{fresh, reset}
use Rattle.chip.specs.State.{with_interrupt, with_rom, with_active}
use Rattle.part.specs.declared.image.ImageRefused.{ImageRefused}
use Rattle.part.specs.Image.{image_checked}
use Rattle.part.specs.Rom.{rom_of}
use Rattle.refusal.specs.declared.Refusal.{Refusal}
use Rattle.refusal.specs.declared.Refusal.TheVariants.{NoImage, TotalLimit, NoInstruction}
use Rattle.step.specs.declared.answer.StepAnswer.{StepAnswer}
use Rattle.step.specs.Step.{Stepped, informed, stepped}
use Rattle.machine.specs.Limits.{total_limit}
use Rattle.machine.specs.State.{State}

-- a new machine: no image, running, SP $FF and all else 0; the board is told the outputs
abbrev pub begun : {B : Type 0} → Ghosts B → B → State B
begun m b = record { chip = fresh; total = 0; loaded = false; board = m.told b (outputs fresh) }

-- a chip that takes an image: all 0, then the image, then a reset
abbrev pub imaged : List ℕ → Chip
imaged image = reset (with_rom (rom_of image) fresh)

-- the board once it is told outputs that a load altered
abbrev pub load_told : {B : Type 0} → Ghosts B → List ℕ → State B → B
load_told m image s = informed m (outputs s.chip) (outputs (imaged image)) s.board

-- what a load samples
abbrev pub load_sample : {B : Type 0} → Ghosts B → List ℕ → State B → Bool
load_sample m image s = active (m.shows (load_told m image s) 0) (imaged image)

-- the machine after a load; its sample is no edge
abbrev pub loaded : {B : Type 0} → Ghosts B → List ℕ → State B → State B
loaded m image s = record {
  chip = with_interrupt (with_active (load_sample m image s) (imaged image).interrupt) (imaged image);
  total = 0;
  loaded = true;
  board = load_told m image s;
}

-- what a call answers, and the machine then
abbrev pub Answered : Type 0 → Type 0 → Type 0 → Type 0
Answered A E B = Result A E × State B

abbrev pub load_by : {B : Type 0} → Ghosts B → Result (Unit {0}) ImageRefused → List ℕ → State B → Answered (Unit {0}) ImageRefused B
load_by m (Ok x) image s = (Ok tt, loaded m image s)
load_by m (Err e) image s = (Err e, s)

-- a load: refused, and nothing is altered, or done
abbrev pub load_of : {B : Type 0} → Ghosts B → List ℕ → State B → Answered (Unit {0}) ImageRefused B
load_of m image s = load_by m (image_checked image) image s

-- a step that was made, and the machine after it
pub record Made (B : Type 0) : Type 0 where
  pub step : Stepped B
  pub after : State B

-- the total rises by the cost
abbrev pub counted : {B : Type 0} → State B → Stepped B → Made B
counted s x = record { step = x; after = record { chip = x.chip; total = s.total + x.answer.cost; loaded = s.loaded; board = x.board } }

abbrev pub attempt_by : {B : Type 0} → Option (Stepped B) → State B → Result (Made B) Refusal
attempt_by None s = Err NoInstruction
attempt_by (Some x) s = Ok (counted s x)

-- whether a step may begin: refused without an image, and above the limit
abbrev pub may_step : {B : Type 0} → State B → Result (Unit {0}) Refusal
may_step s = cond s.loaded (cond (nat_lt total_limit s.total) (Err TotalLimit) (Ok tt)) (Err NoImage)

abbrev pub attempt_if : {B : Type 0} → Result (Unit {0}) Refusal → Ghosts B → State B → Result (Made B) Refusal
attempt_if (Ok x) m s = attempt_by (stepped m s.chip s.board) s
attempt_if (Err e) m s = Err e

-- a step: refused without an image, above the limit and at a code without an instruction, in this order, or made
unfoldable pub attempt : {B : Type 0} → Ghosts B → State B → Result (Made B) Refusal
attempt m s = attempt_if (may_step s) m s

-- what a step answers, and the machine then; a refusal alters nothing
abbrev pub step_by : {B : Type 0} → Result (Made B) Refusal → State B → Answered StepAnswer Refusal B
step_by (Ok x) s = (Ok x.step.answer, x.after)
step_by (Err e) s = (Err e, s)

abbrev pub step_of : {B : Type 0} → Ghosts B → State B → Answered StepAnswer Refusal B
step_of m s = step_by (attempt m s) s
