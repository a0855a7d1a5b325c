-- The published numbers of what a step answers, and its words.
use Rattle.std.specs.Prelude.{ℕ, List, codes}
use Rattle.step.specs.declared.answer.Kind.{Kind}
use Rattle.step.specs.declared.answer.Kind.TheVariants.{External, Timer, Idle, IllegalAddress, Instruction}
use Rattle.step.specs.declared.answer.ResetCause.{ResetCause}
use Rattle.step.specs.declared.answer.ResetCause.TheVariants as cause

abbrev pub kind_number : Kind → ℕ
kind_number External = 1
kind_number Timer = 2
kind_number Idle = 3
kind_number IllegalAddress = 4
kind_number Instruction = 5

abbrev pub cause_number : ResetCause → ℕ
cause_number cause.None = 0
cause_number cause.IllegalAddress = 1
cause_number cause.Watchdog = 2

-- their words
abbrev pub kind_word : Kind → List ℕ
kind_word External = codes "external"
kind_word Timer = codes "timer"
kind_word Idle = codes "idle"
kind_word IllegalAddress = codes "illegal"
kind_word Instruction = codes "instruction"

abbrev pub cause_word : ResetCause → List ℕ
cause_word cause.None = codes "-"
cause_word cause.IllegalAddress = codes "illegal"
cause_word cause.Watchdog = codes "watchdog"
