-- The text of each answer, and of each reason why there is none.
use Rattle.std.specs.Prelude.{ℕ, List, ◌++◌, codes, decimal, Ok, Err, Result}
use Rattle.operate.specs.Answer.{answer_text as machine_text}
use Rattle.session.specs.Answers.{answer_text as script_text}
use Rattle.desk.specs.declared.answer.Answer.{Answer}
use Rattle.desk.specs.declared.answer.Answer.TheVariants as answer
use Rattle.desk.specs.declared.answer.Failure.{Failure}
use Rattle.desk.specs.declared.answer.Failure.TheVariants as failure

abbrev pub answer_text : Result Answer Failure → List ℕ
answer_text (Ok (answer.OfScript a)) = script_text (Ok a)
answer_text (Ok (answer.OfMachine a)) = machine_text (Ok a)
answer_text (Ok (answer.Traced steps)) = codes "ok " ++ decimal steps
answer_text (Err (failure.OfScript e)) = script_text (Err e)
answer_text (Err failure.NoMachine) = codes "error no machine"
answer_text (Err (failure.OfMachine e)) = machine_text (Err e)
