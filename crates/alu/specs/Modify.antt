-- The operations that read a byte and write it back.
use Rattle.std.specs.Prelude.{ℕ, ◌+◌, ◌-◌, ◌%◌, Bool, true, false, nat_le}
use Rattle.opcodes.specs.declared.operation.ReadModifyWrite.{ReadModifyWrite}
use Rattle.opcodes.specs.declared.operation.ReadModifyWrite.TheVariants.{Neg, Com, Lsr, Ror, Asr, Lsl, Rol, Dec, Inc, Tst, Clr}
use Rattle.alu.specs.declared.flags.Flags.{Flags}
use Rattle.alu.specs.declared.outcome.Outcome.{Outcome}
use Rattle.alu.specs.Flags.{with_nzc}
use Rattle.alu.specs.Shift.{moved_left, moved_right}
use Rattle.alu.specs.Sum.{difference_of}

-- the new byte and the new C, from the byte and C: NEG is 0 less the byte, ASR keeps bit 7, and DEC, INC, TST and CLR keep C
abbrev pub outcome_of : ReadModifyWrite → ℕ → Bool → Outcome
outcome_of Neg v c = difference_of 0 v false
outcome_of Com v c = record { value = 255 - v; carry = true }
outcome_of Lsr v c = moved_right v false
outcome_of Ror v c = moved_right v c
outcome_of Asr v c = moved_right v (nat_le 128 v)
outcome_of Lsl v c = moved_left v false
outcome_of Rol v c = moved_left v c
outcome_of Dec v c = record { value = (v + 255) % 256; carry = c }
outcome_of Inc v c = record { value = (v + 1) % 256; carry = c }
outcome_of Tst v c = record { value = v; carry = c }
outcome_of Clr v c = record { value = 0; carry = c }

-- the byte that an operation makes
abbrev pub modified_byte : ReadModifyWrite → Flags → ℕ → ℕ
modified_byte o f v = (outcome_of o v f.c).value

-- the flags after it: N and Z by the new byte
abbrev pub modified_flags : ReadModifyWrite → Flags → ℕ → Flags
modified_flags o f v = with_nzc f (modified_byte o f v) (outcome_of o v f.c).carry
