-- A machine's steps, one line each.
use Rattle.std.specs.Prelude.{ℕ, ◌+◌, ◌-◌, ◌/◌, ◌%◌, ◌^◌, Bool, cond, List, [], ◌++◌, codes}
use Rattle.std.specs.Fmt.{format_spec, styled_decimal}
use Rattle.alu.specs.declared.flags.Flags.{Flags}
use Rattle.chip.specs.declared.state.Registers.{Registers}
use Rattle.board.specs.declared.contract.Board.{Ghosts}
use Rattle.listing.specs.declared.line.Line.{Line}
use Rattle.listing.specs.Text.{bytes_text, instruction_text, column}
use Rattle.machine.specs.State.{State}
use Rattle.machine.specs.Questions.{peeked}
use Rattle.opcodes.specs.Hex.{two_digits}
use Rattle.opcodes.specs.Map.{row_of}
use Rattle.step.specs.declared.answer.Kind.{Kind}
use Rattle.step.specs.declared.answer.Kind.TheVariants.{External, Timer, Idle, IllegalAddress, Instruction}
use Rattle.step.specs.Answer.{cause_word, kind_word}
use Rattle.desk.specs.declared.trace.Place.{Place}
use Rattle.desk.specs.declared.trace.StepLine.{StepLine}

-- what stands at an address of a machine, as a read of it would answer
abbrev pub line_in : {B : Type 0} → Ghosts B → State B → ℕ → Line
line_in m s address = record {
  address = address;
  code = peeked m address s;
  first = peeked m ((address + 1) % 2 ^ 16) s;
  second = peeked m ((address + 2) % 2 ^ 16) s;
  row = row_of (peeked m address s);
}

-- where the machine's next step begins
abbrev pub place_in : {B : Type 0} → Ghosts B → State B → Place
place_in m s = record { total = s.total; line = line_in m s s.chip.registers.pc }

-- a flag's letter, or a point where it is clear
abbrev pub letter_of : Bool → List ℕ → List ℕ
letter_of set letter = cond set letter (codes ".")

abbrev pub flags_text : Flags → List ℕ
flags_text f =
    letter_of f.h (codes "H") ++ (letter_of f.i (codes "I") ++ (letter_of f.n (codes "N") ++ (letter_of f.z (codes "Z") ++ letter_of f.c (codes "C"))))

-- registers and flags: A=03 X=10 SP=FF PC=0302 .I..C
abbrev pub registers_text : Registers → List ℕ
registers_text r =
    codes "A=" ++ (two_digits r.a ++ (codes " X=" ++ (two_digits r.x ++ (codes " SP=" ++ (two_digits r.sp
    ++ (codes " PC=" ++ ((two_digits (r.pc / 256) ++ two_digits (r.pc % 256)) ++ (codes " " ++ flags_text r.flags))))))))

-- at the right of a column of this width, which spaces fill
abbrev pub number_column : ℕ → ℕ → List ℕ
number_column width n = styled_decimal (format_spec 32 3 0 width (2 ^ 64 - 1)) n

-- an instruction's bytes and text; other steps have none
abbrev pub of_instruction : Kind → List ℕ → List ℕ
of_instruction External text = []
of_instruction Timer text = []
of_instruction Idle text = []
of_instruction IllegalAddress text = []
of_instruction Instruction text = text

abbrev pub place_text : Line → Kind → List ℕ
place_text l kind =
    (two_digits (l.address / 256) ++ two_digits (l.address % 256))
    ++ (codes "  " ++ (column 8 (of_instruction kind (bytes_text l)) ++ (codes "  " ++ column 18 (of_instruction kind (instruction_text l)))))

-- the line of a step: total, address, bytes and instruction where it began; its kind, cost and reset; the registers after it
abbrev pub step_text : StepLine → List ℕ
step_text s =
    number_column 8 s.place.total ++ (codes "  " ++ (place_text s.place.line s.answer.kind
    ++ (codes "  " ++ (column 11 (kind_word s.answer.kind) ++ (codes " " ++ (number_column 2 s.answer.cost
    ++ (codes "  " ++ (column 8 (cause_word s.answer.reset) ++ (codes "  " ++ registers_text s.registers)))))))))
