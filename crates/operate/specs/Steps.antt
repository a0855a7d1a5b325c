-- Single steps in a row, and the hash of what they answered.
use Rattle.std.specs.Prelude.{ℕ, zero, suc, ◌+◌, Some, None, Ok, Err, Result}
use Rattle.board.specs.declared.contract.Board.{Ghosts}
use Rattle.machine.specs.State.{State}
use Rattle.machine.specs.Calls.{step_of}
use Rattle.refusal.specs.declared.Refusal.{Refusal}
use Rattle.step.specs.declared.answer.StepAnswer.{StepAnswer}
use Rattle.step.specs.Answer.{kind_number, cause_number}
use Rattle.text.specs.Fnv.{fnv_start, fnv_with}
use Rattle.operate.specs.declared.steps.StepsAnswer.{StepsAnswer}

-- the hash with a step's kind, cost and reset
abbrev pub hashed_step : ℕ → StepAnswer → ℕ
hashed_step hash a = fnv_with (fnv_with (fnv_with hash (kind_number a.kind)) a.cost) (cause_number a.reset)

-- after a step: on with it counted and hashed, or ended by its refusal
abbrev pub steps_after : {B : Type 0} → Result StepAnswer Refusal → State B → ℕ → ℕ → (ℕ → ℕ → State B → StepsAnswer × State B) → StepsAnswer × State B
steps_after (Ok a) s made hash rest = rest (made + 1) (hashed_step hash a) s
steps_after (Err e) s made hash rest = (record { made = made; hash = hash; refusal = Some e }, s)

-- so many more steps
unfoldable pub steps_more : {B : Type 0} → Ghosts B → ℕ → ℕ → ℕ → State B → StepsAnswer × State B
steps_more m zero made hash s = (record { made = made; hash = hash; refusal = None }, s)
steps_more m (suc n) made hash s = steps_after (step_of m s).0 (step_of m s).1 made hash (steps_more m n)

abbrev pub steps_of : {B : Type 0} → Ghosts B → ℕ → State B → StepsAnswer × State B
steps_of m most s = steps_more m most 0 fnv_start s
