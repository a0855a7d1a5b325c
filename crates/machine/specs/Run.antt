-- A run.
use Rattle.std.specs.Prelude.{ℕ, zero, suc, ◌-◌, cond, List, [], ◌∷◌, length, Ok, Err, Result, nat_lt}
use Rattle.board.specs.declared.contract.Board.{Ghosts}
use Rattle.refusal.specs.declared.Refusal.{Refusal}
use Rattle.refusal.specs.declared.Refusal.TheVariants.{NoImage, Target}
use Rattle.machine.specs.declared.answer.RunEnd.{RunEnd}
use Rattle.machine.specs.declared.answer.RunEnd.TheVariants.{Reached, Stuck}
use Rattle.machine.specs.declared.answer.RunAnswer.{RunAnswer}
use Rattle.machine.specs.Limits.{total_limit}
use Rattle.machine.specs.State.{State}
use Rattle.machine.specs.Calls.{Made, Answered, attempt}

-- the steps of a run, how it ended, and the machine then
pub record Run (B : Type 0) : Type 0 where
  pub steps : List (Made B)
  pub end : RunEnd
  pub after : State B

abbrev pub ends : {B : Type 0} → RunEnd → State B → Run B
ends e s = record { steps = []; end = e; after = s }

-- on after a step that was made; stuck where it is refused
abbrev pub onward : {B : Type 0} → Result (Made B) Refusal → (State B → Run B) → State B → Run B
onward (Ok x) rest s = record { steps = x ∷ (rest x.after).steps; end = (rest x.after).end; after = (rest x.after).after }
onward (Err e) rest s = ends Stuck s

-- steps while the total is below the target, at most so many
unfoldable pub run_for : {B : Type 0} → Ghosts B → ℕ → ℕ → State B → Run B
run_for m zero target s = ends Reached s
run_for m (suc most) target s = cond (nat_lt s.total target) (onward (attempt m s) (run_for m most target) s) (ends Reached s)

-- every step raises the total, so that there are no more steps than cycles left
abbrev pub run_to : {B : Type 0} → Ghosts B → ℕ → State B → Run B
run_to m target s = run_for m (target - s.total) target s

abbrev pub run_answer : {B : Type 0} → Run B → RunAnswer
run_answer r = record { steps = length r.steps; end = r.end }

-- what a run that is made answers, and the machine then
abbrev pub run_made : {B : Type 0} → Run B → Answered RunAnswer Refusal B
run_made r = (Ok (run_answer r), r.after)

-- a run: refused for a target above the limit and without an image, in this order, or made
unfoldable pub run_of : {B : Type 0} → Ghosts B → ℕ → State B → Answered RunAnswer Refusal B
run_of m target s =
    cond (nat_lt total_limit target) (Err Target, s)
    (cond s.loaded (run_made (run_to m target s)) (Err NoImage, s))
