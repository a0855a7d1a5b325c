-- The reset that a step answers.
use Rattle.std.proofs.Common.{◌≡◌, Bool, true, false, cond, leb, Some, None, Option, refl, ap, ◌∙◌}
use Rattle.board.specs.declared.contract.Board.{Ghosts}
use Rattle.board.specs.declared.reading.Reading.{Reading}
use Rattle.chip.specs.declared.state.Chip.{Chip}
use Rattle.chip.specs.declared.state.Mode.{Mode}
use Rattle.chip.specs.Pins.{outputs}
use Rattle.cycles.specs.Cycles.{cycled}
use Rattle.cycles.proofs.Cycles.{cycled_leaves}
use Rattle.part.specs.Rom.{copen}
use Rattle.step.specs.declared.action.Action.{Action}
use Rattle.step.specs.declared.action.Action.TheVariants.{External, Timer, Idle, IllegalAddress, Instruction}
use Rattle.step.specs.declared.answer.ResetCause.TheVariants as cause
use Rattle.step.specs.Action.{action_of, cost_of, raises_clock, is_illegal, acted, stopped}
use Rattle.step.specs.Step.{Stepped, informed, worked, worked_by, stepped}
use Rattle.timer.specs.Clock.{risen_by}
use Rattle.facts.specs.Setting.{by_watchdog}
use Rattle.facts.specs.Cases.{ResetsOverdue}

-- the watchdog comes before an illegal address
first_watchdog : (overdue illegal : Bool) → by_watchdog (cond overdue cause.Watchdog (cond illegal cause.IllegalAddress cause.None)) ≡ overdue
first_watchdog true illegal = refl
first_watchdog false true = refl
first_watchdog false false = refl

-- t rises in every step of a chip that is not stopped
rises : (a : Action) (mode : Mode) → stopped mode ≡ false → raises_clock a mode ≡ true
rises External mode e = refl
rises Timer mode e = refl
rises Idle mode e = rw e
rises IllegalAddress mode e = refl
rises (Instruction i) mode e = refl

module _ {B : Type 0} (m : Ghosts B) (s : Chip) (b : B) (e : stopped s.mode ≡ false) where
  works : (a : Action) (r : Reading) → ResetsOverdue (worked m a r s b)
  unfolding worked
  works a r =
      let acting : Chip = acted a r s in
      let told : B = informed m (outputs s) (outputs acting) b in
      let up : Bool = raises_clock a s.mode in
      let timer =
      (cycled_leaves m up (cost_of a) acting told).timer
      ∙ ap (λ on. cond on (risen_by (copen acting.rom) (cost_of a) acting.timer) acting.timer) (rises a s.mode e) in
      first_watchdog (leb 8 (cycled m up (cost_of a) acting told).0.timer.stage) (is_illegal a) ∙ ap (λ t. leb 8 t.stage) timer

  by_action : (o : Option Action) (r : Reading) (x : Stepped B) → worked_by m o r s b ≡ Some x → ResetsOverdue x
  by_action None r x q = cc
  by_action (Some a) r x q = let same : worked m a r s b ≡ x = cc in rw same at (works a r)

  pub step_resets : (x : Stepped B) → stepped m s b ≡ Some x → ResetsOverdue x
  unfolding stepped
  step_resets x q = by_action (action_of (m.shows b 0) s) (m.shows b 0) x q
