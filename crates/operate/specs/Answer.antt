-- The text of what the calls of a machine answer.
use Rattle.std.specs.Prelude.{ℕ, List, [], ◌++◌, Some, None, Ok, Err, codes, decimal, Option, Result}
use Rattle.board.specs.declared.reading.Reading.{Reading}
use Rattle.machine.specs.Answer.{end_number}
use Rattle.part.specs.declared.image.ImageRefused.{ImageRefused}
use Rattle.part.specs.declared.image.ImageRefused.TheVariants.{Length, Byte}
use Rattle.part.specs.Image.{image_refusal}
use Rattle.refusal.specs.declared.Refusal.{Refusal}
use Rattle.refusal.specs.Numbers.{number_of}
use Rattle.step.specs.Answer.{kind_number, cause_number}
use Rattle.text.specs.HexText.{quad_text}
use Rattle.operate.specs.declared.answer.MachineAnswer.{MachineAnswer}
use Rattle.operate.specs.declared.answer.MachineAnswer.TheVariants.{Loaded, Stepped, Steps, Ran, State, Empty, Shown}
use Rattle.operate.specs.declared.answer.Refused.{Refused}
use Rattle.operate.specs.declared.answer.Refused.TheVariants.{Image, Call}
use Rattle.operate.specs.declared.steps.StepsAnswer.{StepsAnswer}
use Rattle.operate.specs.Snapshot.{snapshot_text}

-- a number after a space
abbrev pub spaced : ℕ → List ℕ
spaced n = codes " " ++ decimal n

abbrev pub refused_text : Refusal → List ℕ
refused_text e = codes "refused" ++ spaced (number_of e)

-- the address of a byte that makes an image none
abbrev pub place_text : ImageRefused → List ℕ
place_text Length = []
place_text (Byte address) = spaced address

-- the refusal that ended steps in a row
abbrev pub end_text : Option Refusal → List ℕ
end_text None = []
end_text (Some e) = codes " " ++ refused_text e

abbrev pub steps_text : StepsAnswer → List ℕ
steps_text a = codes "steps" ++ (spaced a.made ++ (codes " " ++ (quad_text a.hash ++ end_text a.refusal)))

abbrev pub shown_text : Reading → List ℕ
shown_text r = spaced r.level_a ++ (spaced r.open_a ++ (spaced r.level_b ++ (spaced r.open_b ++ spaced r.irq)))

-- what a call answers, or why it is refused
abbrev pub answer_text : Result MachineAnswer Refused → List ℕ
answer_text (Ok Loaded) = codes "ok"
answer_text (Ok (Stepped a)) = codes "step" ++ (spaced (kind_number a.kind) ++ (spaced a.cost ++ spaced (cause_number a.reset)))
answer_text (Ok (Steps a)) = steps_text a
answer_text (Ok (Ran a)) = codes "run" ++ (spaced a.steps ++ spaced (end_number a.end))
answer_text (Ok (State x)) = snapshot_text x
answer_text (Ok (Empty r)) = codes "state none SHOW" ++ shown_text r
answer_text (Ok (Shown r)) = codes "show" ++ shown_text r
answer_text (Err (Image e)) = refused_text (image_refusal e) ++ place_text e
answer_text (Err (Call e)) = refused_text e
