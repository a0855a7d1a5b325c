use Rattle.std.proofs.Common.{◌≡◌, Some, None, Err, sym, ap, ◌∙◌, subst, arith}
use Rattle.std.proofs.lemmas.Result.{err_from_is_err_and}
use Rattle.std.specs.Option.{ok_or}
use Rattle.std.specs.Result.{result_ok}
use Rattle.refusal.specs.declared.Refusal.TheVariants.{NoInstruction}
use Rattle.step.proofs.Costs.{Costs, AnswerCosts, answer_costs}
use Rattle.machine.specs.State.{state}
use Rattle.machine.proofs.Stepping.{forbidden, below_limit, goes_on, counting}
use Rattle.machine.proofs.machine.Machine.step.Goals as goal

pub returns-in_err-may_step : goal.returns-in_err-may_step
returns-in_err-may_step g c =
    let p = err_from_is_err_and c.from_residual.result c.from_residual.ensures.1 in
    rw (p.1, p.2) (forbidden g.B.Board (state c.args.self.now) c.in_err-may_step.field-0.0 (sym c.may_step.ensures ∙ c.in_err-may_step.was))

pub returns-in_err-answer : goal.returns-in_err-answer
returns-in_err-answer g c =
    let s = c.args.self.now in
    let u = c.step_chip.new.fitted in
    let p = err_from_is_err_and c.from_residual-in_err-answer.result c.from_residual-in_err-answer.ensures.1 in
    let none : c.step_chip.result ≡ None = c.ok_or.ensures.ok_part ∙ ap result_ok c.in_err-answer.was in
    let refused : c.from_residual-in_err-answer.result ≡ Err NoInstruction = p.1 ∙ ap Err p.2 ∙ sym c.in_err-answer.was ∙ c.ok_or.ensures.value ∙ ap (λ o. ok_or o NoInstruction) none in
    ap (λ r. (r, record { chip = u.chip; total = s.total; loaded = s.loaded; board = u.board })) refused
    ∙ goes_on g.B.Board (state s) None u.chip u.board (sym c.may_step.ensures ∙ c.in_ok-may_step.was) (ap (λ o. (o, (u.chip, u.board))) (sym none) ∙ c.step_chip.ensures.is)

pub invariant_of-self-2 : goal.invariant_of-self-2
invariant_of-self-2 g c =
    let s = c.args.self.now in
    let made : c.step_chip.result ≡ Some c.in_ok-answer.answer = c.ok_or.ensures.ok_part ∙ ap result_ok c.in_ok-answer.was in
    let cheap : Costs c.in_ok-answer.answer = subst AnswerCosts (sym (ap (λ p. p.0) c.step_chip.ensures.is) ∙ made) (answer_costs g.B.Board s.fitted.chip s.fitted.board) in
    let cost = c.from.ensures in
    let limit = below_limit (state s) (sym c.may_step.ensures ∙ c.in_ok-may_step.was) in
    let sound = c.step_chip.ensures.sound in
    record { registers = sound.0; ports = sound.1; timer = sound.2; stage = sound.3; rest = sound.4; count = omega arith }

pub returns : goal.returns
returns g c =
    let s = c.args.self.now in
    let u = c.step_chip.new.fitted in
    let a = c.in_ok-answer.answer in
    let made : c.step_chip.result ≡ Some a = c.ok_or.ensures.ok_part ∙ ap result_ok c.in_ok-answer.was in
    ap (λ n. counting (state s) a u.chip u.board n) c.from.ensures
    ∙ goes_on g.B.Board (state s) (Some a) u.chip u.board (sym c.may_step.ensures ∙ c.in_ok-may_step.was) (ap (λ o. (o, (u.chip, u.board))) (sym made) ∙ c.step_chip.ensures.is)
