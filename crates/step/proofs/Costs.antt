-- What a step costs.
use Rattle.std.proofs.Common.{◌≡◌, ℕ, ◌/◌, ◌%◌, ◌≤◌, cond, [], get_or, Some, None, Option, sym, ap, ◌∙◌, subst, inl, inr, arith}
use Rattle.std.proofs.lemmas.List.{get_or_past}
use Rattle.std.proofs.lemmas.Bool.{cases_lt, cond_both, ne_eqb}
use Rattle.board.specs.declared.contract.Board.{Ghosts}
use Rattle.board.specs.declared.reading.Reading.{Reading}
use Rattle.chip.specs.declared.state.Chip.{Chip}
use Rattle.execute.specs.declared.fetch.Fetched.{Fetched}
use Rattle.execute.specs.Fetch.{fetched}
use Rattle.opcodes.specs.declared.addressing.Row.{Row}
use Rattle.opcodes.specs.declared.operation.Control.TheVariants.{Mul}
use Rattle.opcodes.specs.Map.{row_of, row_with, operation_of, columns, control}
use Rattle.opcodes.specs.Rules.{Lawful}
use Rattle.opcodes.proofs.Keeps.{keeps}
use Rattle.part.specs.Layout.{executable}
use Rattle.step.specs.declared.action.Action.{Action}
use Rattle.step.specs.declared.action.Action.TheVariants.{External, Timer, Idle}
use Rattle.step.specs.declared.answer.StepAnswer.{StepAnswer}
use Rattle.step.specs.Action.{Affordable, action_of, external_due, timer_due, rests, instruction_by, instruction_in}
use Rattle.step.specs.Step.{Stepped, stepped, worked, worked_by, answered}

-- a number that is no byte is no code
no_code : (code : ℕ) → 256 ≤ code → operation_of code ≡ None
no_code code h =
    let far : get_or columns (code / 16) [] ≡ [] = get_or_past columns (code / 16) [] (omega arith) in
    ap (λ b. cond b (control Mul) (get_or (get_or columns (code / 16) []) (code % 16) None)) (ne_eqb code 0x42 (λ e. omega arith))
    ∙ ap (λ column. get_or column (code % 16) None) far

row_costs : (code : ℕ) → Lawful code (row_of code)
unfolding row_of
row_costs code = elim (cases_lt code 256) [
  | inl h ↦ keeps code h
  | inr h ↦ subst (λ o. Lawful code (row_with code o)) (sym (no_code code h)) tt
]

instruction_costs : (code : ℕ) (o : Option Row) (f : Fetched) → Lawful code o → Affordable (instruction_by o f)
instruction_costs code None f h = tt
instruction_costs code (Some row) f h = let low = h.quickest in (omega arith, h.slowest)

pub affordable : (r : Reading) (s : Chip) → Affordable (action_of r s)
affordable r s =
    cond_both (external_due s) (Some External) _ Affordable (λ _. (omega arith, omega arith))
    (λ _. cond_both (timer_due s) (Some Timer) _ Affordable (λ _. (omega arith, omega arith))
    (λ _. cond_both (rests s.mode) (Some Idle) _ Affordable (λ _. (omega arith, omega arith))
    (λ _. cond_both (executable s.registers.pc) (instruction_in r s) _ Affordable
    (λ _. instruction_costs (fetched r s).code (row_of (fetched r s).code) (fetched r s) (row_costs (fetched r s).code))
    (λ _. (omega arith, omega arith)))))

-- a step costs 1 to 11 cycles
abbrev pub Costs : StepAnswer → Type 0
Costs a = (1 ≤ a.cost) × (a.cost ≤ 11)

abbrev pub StepCosts : {B : Type 0} → Option (Stepped B) → Type 0
StepCosts None = Unit {0}
StepCosts (Some x) = Costs x.answer

abbrev pub AnswerCosts : Option StepAnswer → Type 0
AnswerCosts None = Unit {0}
AnswerCosts (Some a) = Costs a

module _ {B : Type 0} (m : Ghosts B) where
  action_costs : (o : Option Action) (r : Reading) (s : Chip) (b : B) → Affordable o → StepCosts (worked_by m o r s b)
  unfolding worked
  action_costs None r s b h = tt
  action_costs (Some a) r s b h = h

  pub step_costs : (s : Chip) (b : B) → StepCosts (stepped m s b)
  unfolding stepped
  step_costs s b = action_costs (action_of (m.shows b 0) s) (m.shows b 0) s b (affordable (m.shows b 0) s)

  seen : (o : Option (Stepped B)) (s : Chip) (b : B) → StepCosts o → AnswerCosts (answered o s b).0
  seen None s b h = tt
  seen (Some x) s b h = h

  pub answer_costs : (s : Chip) (b : B) → AnswerCosts (answered (stepped m s b) s b).0
  answer_costs s b = seen (stepped m s b) s b (step_costs s b)
