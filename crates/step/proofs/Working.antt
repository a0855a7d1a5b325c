-- The parts of a step put together.
use Rattle.std.proofs.Common.{◌≡◌, Some, None, sym, ap, ◌∙◌}
use Rattle.board.specs.declared.contract.Board.{Ghosts}
use Rattle.board.specs.declared.reading.Reading.{Reading}
use Rattle.chip.specs.declared.state.Chip.{Chip}
use Rattle.chip.specs.Pins.{outputs}
use Rattle.cycles.specs.Cycles.{cycled}
use Rattle.step.specs.declared.action.Action.{Action}
use Rattle.step.specs.declared.answer.StepAnswer.{StepAnswer}
use Rattle.step.specs.Action.{action_of, kind_in, cost_of, raises_clock, acted}
use Rattle.step.specs.Step.{informed, cause_of, reset_by, worked, worked_by, stepped, shown, answered}

module _ {B : Type 0} (m : Ghosts B) (a : Action) where
  -- what follows the cycles
  abbrev pub finish : Chip × B → StepAnswer × (Chip × B)
  finish p = (
    record { kind = kind_in a; cost = cost_of a; reset = cause_of a p.0.timer.stage },
    (
      reset_by (cause_of a p.0.timer.stage) p.0,
      informed m (outputs p.0) (outputs (reset_by (cause_of a p.0.timer.stage) p.0)) p.1,
    ),
  )

  pub works : (r : Reading) (s : Chip) (b : B) (acting : Chip) (told : B) (p : Chip × B)
      → acting ≡ acted a r s → told ≡ informed m (outputs s) (outputs acting) b → p ≡ cycled m (raises_clock a s.mode) (cost_of a) acting told
      → finish p ≡ shown (worked m a r s b)
  unfolding worked
  works r s b acting told p e f g =
      let f' : told ≡ informed m (outputs s) (outputs (acted a r s)) b = f ∙ ap (λ x. informed m (outputs s) (outputs x) b) e in
      ap finish (g ∙ (λ i. cycled m (raises_clock a s.mode) (cost_of a) (e i) (f' i)))

module _ {B : Type 0} (m : Ghosts B) (s : Chip) (b : B) (r : Reading) (shows : r ≡ m.shows b 0) where
  -- a step that is not made
  pub not_made : action_of r s ≡ None → (None, (s, b)) ≡ answered (stepped m s b) s b
  unfolding stepped
  not_made e = ap (λ o. answered (worked_by m o r s b) s b) (sym e) ∙ (λ i. answered (worked_by m (action_of (shows i) s) (shows i) s b) s b)

  -- a step that is made
  pub made : (a : Action) (x : StepAnswer) (p : Chip × B) → action_of r s ≡ Some a → (x, p) ≡ shown (worked m a r s b) → (Some x, p) ≡ answered (stepped m s b) s b
  unfolding stepped
  made a x p e w =
      ap (λ q. (Some q.0, q.1)) w ∙ ap (λ o. answered (worked_by m o r s b) s b) (sym e)
      ∙ (λ i. answered (worked_by m (action_of (shows i) s) (shows i) s b) s b)
