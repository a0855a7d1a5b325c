-- The published numbers of what a run answers.
use Rattle.std.specs.Prelude.{ℕ}
use Rattle.machine.specs.declared.answer.RunEnd.{RunEnd}
use Rattle.machine.specs.declared.answer.RunEnd.TheVariants.{Reached, Stuck}

abbrev pub end_number : RunEnd → ℕ
end_number Reached = 0
end_number Stuck = 1
