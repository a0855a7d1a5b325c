use Rattle.alu.proofs.ConditionBytes.{flags_back, byte_back}
use Rattle.alu.proofs.flags.condition_byte_keeps_flags.Goals as goal

pub returns : goal.returns
returns c = record { flags = flags_back; byte = byte_back }
