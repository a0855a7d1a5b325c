-- What a script's call does to a machine, and what it answers.
use Rattle.std.specs.Prelude.{ℕ, cond, List, Ok, Err, Result}
use Rattle.board.specs.declared.contract.Board.{Ghosts}
use Rattle.machine.specs.declared.answer.RunAnswer.{RunAnswer}
use Rattle.machine.specs.State.{State}
use Rattle.machine.specs.Calls.{load_of, step_of}
use Rattle.machine.specs.Run.{run_of}
use Rattle.part.specs.declared.image.ImageRefused.{ImageRefused}
use Rattle.refusal.specs.declared.Refusal.{Refusal}
use Rattle.orders.specs.declared.call.MachineCall.{MachineCall}
use Rattle.orders.specs.declared.call.MachineCall.TheVariants as call
use Rattle.step.specs.declared.answer.StepAnswer.{StepAnswer}
use Rattle.operate.specs.declared.answer.MachineAnswer.{MachineAnswer}
use Rattle.operate.specs.declared.answer.MachineAnswer.TheVariants.{Loaded, Stepped, Steps, Ran, State as Held, Empty, Shown}
use Rattle.operate.specs.declared.answer.Refused.{Refused}
use Rattle.operate.specs.declared.answer.Refused.TheVariants.{Image, Call}
use Rattle.operate.specs.Snapshot.{snapshot_of}
use Rattle.operate.specs.Steps.{steps_of}

abbrev pub load_answer : Result (Unit {0}) ImageRefused → Result MachineAnswer Refused
load_answer (Ok x) = Ok Loaded
load_answer (Err e) = Err (Image e)

abbrev pub step_answer : Result StepAnswer Refusal → Result MachineAnswer Refused
step_answer (Ok a) = Ok (Stepped a)
step_answer (Err e) = Err (Call e)

abbrev pub run_answer : Result RunAnswer Refusal → Result MachineAnswer Refused
run_answer (Ok a) = Ok (Ran a)
run_answer (Err e) = Err (Call e)

abbrev pub load_answered : {B : Type 0} → Ghosts B → List ℕ → State B → Result MachineAnswer Refused × State B
load_answered m image s = (load_answer (load_of m image s).0, (load_of m image s).1)

-- all that a machine holds; without an image only what its board shows
abbrev pub state_of : {B : Type 0} → Ghosts B → State B → MachineAnswer
state_of m s = cond s.loaded (Held (snapshot_of m s)) (Empty (m.shows s.board 0))

abbrev pub called : {B : Type 0} → Ghosts B → MachineCall → State B → Result MachineAnswer Refused × State B
called m call.Step s = (step_answer (step_of m s).0, (step_of m s).1)
called m (call.Steps n) s = (Ok (Steps (steps_of m n s).0), (steps_of m n s).1)
called m (call.Run target) s = (run_answer (run_of m target s).0, (run_of m target s).1)
called m call.State s = (Ok (state_of m s), s)
called m call.Show s = (Ok (Shown (m.shows s.board 0)), s)
