-- The machine that a script works on, once it has begun one.
use Rattle.std.specs.Prelude.{ℕ, List, Some, None, Ok, Err, Option, Result}
use Rattle.std.specs.Option.{option_map}
use Rattle.board.specs.declared.contract.Board.{Ghosts}
use Rattle.machine.specs.State.{State, state}
use Rattle.machine.specs.Calls.{begun, step_of}
use Rattle.operate.specs.declared.answer.MachineAnswer.{MachineAnswer}
use Rattle.operate.specs.declared.answer.Refused.{Refused}
use Rattle.operate.specs.declared.answer.Refused.TheVariants.{Call}
use Rattle.operate.specs.Call.{called, load_answered}
use Rattle.orders.specs.declared.call.MachineCall.{MachineCall}
use Rattle.refusal.specs.declared.Refusal.{Refusal}
use Rattle.step.specs.declared.answer.StepAnswer.{StepAnswer}
use Rattle.session.specs.declared.answer.Answer.TheVariants.{Done}
use Rattle.desk.specs.declared.answer.Answer.{Answer}
use Rattle.desk.specs.declared.answer.Answer.TheVariants.{OfScript, OfMachine}
use Rattle.desk.specs.declared.answer.Failure.{Failure}
use Rattle.desk.specs.declared.answer.Failure.TheVariants.{NoMachine, OfMachine as RefusedByMachine}
use Rattle.desk.specs.declared.operator.Operator.{Operator}
use Rattle.desk.specs.declared.trace.Place.{Place}
use Rattle.desk.specs.declared.trace.StepLine.{StepLine}
use Rattle.desk.specs.Trace.{place_in}

-- the machine, if a script has begun one
abbrev pub Operated : Type 0 → Type 0
Operated B = Option (State B)

abbrev pub operator : {B : Type 0} → Operator B → Operated B
operator o = option_map state o.machine

abbrev pub starts : {B : Type 0} → Operated B
starts = None

abbrev pub begins : {B : Type 0} → Ghosts B → B → Answer × Operated B
begins m board = (OfScript Done, Some (begun m board))

abbrev pub of_machine : Result MachineAnswer Refused → Result Answer Failure
of_machine (Ok answer) = Ok (OfMachine answer)
of_machine (Err refused) = Err (RefusedByMachine refused)

-- what a machine answers, and the machine then, once one is begun
abbrev pub once_begun : {B : Type 0} → Operated B → (State B → Result MachineAnswer Refused × State B) → Result Answer Failure × Operated B
once_begun None f = (Err NoMachine, None)
once_begun (Some s) f = (of_machine (f s).0, Some (f s).1)

abbrev pub operated : {B : Type 0} → Ghosts B → MachineCall → Operated B → Result Answer Failure × Operated B
operated m call o = once_begun o (called m call)

abbrev pub operated_load : {B : Type 0} → Ghosts B → List ℕ → Operated B → Result Answer Failure × Operated B
operated_load m image o = once_begun o (load_answered m image)

-- a step that is told as a line does to the machine what a step does
abbrev pub traced : {B : Type 0} → Ghosts B → Operated B → Operated B
traced m o = option_map (λ s. (step_of m s).1) o

abbrev pub told_by : {B : Type 0} → Result StepAnswer Refusal → Place → State B → Result StepLine Failure
told_by (Ok answer) place after = Ok (record { place = place; answer = answer; registers = after.chip.registers })
told_by (Err refusal) place after = Err (RefusedByMachine (Call refusal))

-- what is told of a step: where it begins, its answer, and the registers after it; or why none was made
abbrev pub told : {B : Type 0} → Ghosts B → Operated B → Result StepLine Failure
told m None = Err NoMachine
told m (Some s) = told_by (step_of m s).0 (place_in m s) (step_of m s).1
