-- The first of so many steps.
use Rattle.std.proofs.Common.{◌≡◌, ℕ, zero, suc, ◌-◌, ◌<◌, None, Result, sym, refl, ap, ◌∙◌, arith}
use Rattle.board.specs.declared.contract.Board.{Ghosts}
use Rattle.machine.specs.State.{State}
use Rattle.machine.specs.Calls.{step_of}
use Rattle.refusal.specs.declared.Refusal.{Refusal}
use Rattle.step.specs.declared.answer.StepAnswer.{StepAnswer}
use Rattle.operate.specs.Steps.{steps_after, steps_more}

module _ {B : Type 0} (m : Ghosts B) (made hash : ℕ) (s : State B) where
  pub first : (n : ℕ) (r : Result StepAnswer Refusal) (t : State B) → 0 < n → (r, t) ≡ step_of m s → steps_more m n made hash s ≡ steps_after r t made hash (steps_more m (n - 1))
  unfolding steps_more
  first zero r t h e = absurd (omega arith)
  first (suc n) r t h e =
      let k : n ≡ suc n - 1 = omega arith in
      ap (λ p. steps_after p.0 p.1 made hash (steps_more m n)) (sym e) ∙ ap (λ i. steps_after r t made hash (steps_more m i)) k

  pub none : steps_more m 0 made hash s ≡ (record { made = made; hash = hash; refusal = None }, s)
  unfolding steps_more
  none = refl
