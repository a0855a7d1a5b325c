use Rattle.std.proofs.lemmas.Result.{IfOk-weaker}
use Rattle.desk.proofs.trace.StepLine.text.Goals as goal

pub returns : goal.returns
returns c =
    IfOk-weaker c.format.result _ _
    (λ s e. let f = rw (c.laid_out.ensures, c.laid_out-2.ensures, c.laid_out-3.ensures, c.laid_out-4.ensures) at e in
    rw c.in_ok-place.ensures at f)
    c.format.ensures.ok
