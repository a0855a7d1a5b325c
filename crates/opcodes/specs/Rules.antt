-- The rules that the opcode map keeps.
use Rattle.std.specs.Prelude.{◌≡◌, ℕ, zero, suc, ◌+◌, ◌<◌, ◌≤◌, Some, None, Option}
use Rattle.opcodes.specs.declared.addressing.Row.{Row}
use Rattle.opcodes.specs.Cycles.{cycles_of}
use Rattle.opcodes.specs.Map.{row_of, length_of}

-- what holds of the row of a code
pub record RowRules (code : ℕ) (row : Row) : Type 0 where
  pub cycles : row.cycles ≡ cycles_of code
  pub quickest : 2 ≤ row.cycles
  pub slowest : row.cycles ≤ 11
  pub length : row.length ≡ length_of row.addressing
  pub shortest : 1 ≤ row.length
  pub longest : row.length ≤ 3

-- the rules, where the code has an instruction
abbrev pub Lawful : ℕ → Option Row → Type 0
Lawful code None = Unit {0}
Lawful code (Some row) = RowRules code row

-- 1 for a code with an instruction
abbrev pub one : Option Row → ℕ
one None = 0
one (Some row) = 1

-- how many codes below n have an instruction
unfoldable pub instructions : ℕ → ℕ
instructions zero = 0
instructions (suc n) = one (row_of n) + instructions n

-- 210 codes have an instruction, and each keeps the rules
pub record OpcodeRules : Type 0 where
  pub known : instructions 256 ≡ 210
  pub each : (code : ℕ) → code < 256 → Lawful code (row_of code)
