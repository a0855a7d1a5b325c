-- The cases of a step.
use Rattle.std.proofs.Common.{◌≡◌, ℕ, ◌+◌, ◌<◌, ◌≤◌, ltb, Some, None, Ok, Err, Option, Result, sym, refl, ap, ◌∙◌, subst, arith}
use Rattle.std.proofs.lemmas.Bool.{ltb-false, cond_both}
use Rattle.board.specs.declared.contract.Board.{Ghosts}
use Rattle.chip.specs.declared.state.Chip.{Chip}
use Rattle.refusal.specs.declared.Refusal.{Refusal}
use Rattle.refusal.specs.declared.Refusal.TheVariants.{NoImage, TotalLimit, NoInstruction}
use Rattle.step.specs.declared.answer.StepAnswer.{StepAnswer}
use Rattle.step.specs.Step.{Stepped, stepped, answered}
use Rattle.step.proofs.Costs.{StepCosts, step_costs}
use Rattle.machine.specs.Limits.{total_limit}
use Rattle.machine.specs.State.{State}
use Rattle.machine.specs.Calls.{Made, Answered, may_step, attempt, attempt_by, attempt_if, step_by, step_of}

-- a step made, with the total raised by n
abbrev pub counting : {B : Type 0} → State B → StepAnswer → Chip → B → ℕ → Answered StepAnswer Refusal B
counting s a chip board n = (Ok a, record { chip = chip; total = s.total + n; loaded = s.loaded; board = board })

-- a machine that goes on from a step of its chip and board
abbrev pub going_on : {B : Type 0} → State B → Option StepAnswer → Chip → B → Answered StepAnswer Refusal B
going_on s None chip board = (Err NoInstruction, record { chip = chip; total = s.total; loaded = s.loaded; board = board })
going_on s (Some a) chip board = counting s a chip board a.cost

-- the total rises by 1 to 11 in a step that is made
abbrev pub Raises : {B : Type 0} → ℕ → Result (Made B) Refusal → Type 0
Raises total (Ok x) = (total < x.after.total) × (x.after.total ≤ total + 11)
Raises total (Err e) = Unit {0}

module _ {B : Type 0} (m : Ghosts B) (s : State B) where
  pub forbidden : (e : Refusal) → may_step s ≡ Err e → (Err e, s) ≡ step_of m s
  unfolding attempt
  forbidden e h = ap (λ r. step_by (attempt_if r m s) s) (sym h)

  proceeds : may_step s ≡ Ok tt → attempt m s ≡ attempt_by (stepped m s.chip s.board) s
  unfolding attempt
  proceeds h = ap (λ r. attempt_if r m s) h

  by_step : (o : Option (Stepped B)) → going_on s (answered o s.chip s.board).0 (answered o s.chip s.board).1.0 (answered o s.chip s.board).1.1 ≡ step_by (attempt_by o s) s
  by_step None = refl
  by_step (Some x) = refl

  pub goes_on : (r : Option StepAnswer) (chip : Chip) (board : B) → may_step s ≡ Ok tt
      → (r, (chip, board)) ≡ answered (stepped m s.chip s.board) s.chip s.board → going_on s r chip board ≡ step_of m s
  goes_on r chip board h w =
      ap (λ p. going_on s p.0 p.1.0 p.1.1) w ∙ by_step (stepped m s.chip s.board) ∙ ap (λ x. step_by x s) (sym (proceeds h))

  by_cost : (o : Option (Stepped B)) → StepCosts o → Raises s.total (attempt_by o s)
  by_cost None h = tt
  by_cost (Some x) h = (omega arith, omega arith)

  by_leave : (r : Result (Unit {0}) Refusal) → Raises s.total (attempt_if r m s)
  by_leave (Ok x) = by_cost (stepped m s.chip s.board) (step_costs m s.chip s.board)
  by_leave (Err e) = tt

  pub raises : Raises s.total (attempt m s)
  unfolding attempt
  raises = by_leave (may_step s)

-- a step that may begin is not above the limit
abbrev Low : ℕ → Result (Unit {0}) Refusal → Type 0
Low total (Ok x) = total ≤ total_limit
Low total (Err e) = Unit {0}

low : {B : Type 0} (s : State B) → Low s.total (may_step s)
low s =
    cond_both s.loaded _ (Err NoImage) (Low s.total)
    (λ _. cond_both (ltb total_limit s.total) (Err TotalLimit) (Ok tt) (Low s.total) (λ _. tt) (λ e. ltb-false total_limit s.total e))
    (λ _. tt)

pub below_limit : {B : Type 0} (s : State B) → may_step s ≡ Ok tt → s.total ≤ total_limit
below_limit s h = subst (Low s.total) h (low s)
