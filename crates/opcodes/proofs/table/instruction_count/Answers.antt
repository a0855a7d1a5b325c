use Rattle.std.proofs.Common.{refl}
use Rattle.opcodes.specs.Map.{row_of}
use Rattle.opcodes.specs.Rules.{instructions}
use Rattle.opcodes.proofs.Keeps.{keeps}
use Rattle.opcodes.proofs.table.instruction_count.Goals as goal

pub returns : goal.returns
unfolding row_of instructions
returns c = record { count = refl; rules = record { known = refl; each = keeps } }
