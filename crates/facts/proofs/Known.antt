-- The known cases; those of one instruction are computed.
use Rattle.std.proofs.Common.{refl, arith}
use Rattle.board.specs.declared.contract.Board.{Ghosts}
use Rattle.cycles.specs.Cycles.{cycled}
use Rattle.execute.specs.Fetch.{executed}
use Rattle.opcodes.specs.Map.{row_of}
use Rattle.step.specs.Step.{stepped, worked}
use Rattle.writes.specs.Writes.{instruction_writes}
use Rattle.facts.specs.Cases.{KnownCases}
use Rattle.facts.proofs.Taps.{overdue}
use Rattle.facts.proofs.Resets.{step_resets}

pub known : {B : Type 0} (m : Ghosts B) → KnownCases m
unfolding executed instruction_writes row_of stepped worked cycled
known m = record {
  add_wraps = λ r s x sp f. refl;
  multiplies_to_x_and_a = λ r s sp f. refl;
  call_wraps_stack = λ r s a x f. (refl, refl);
  index_wraps = λ r s a sp f. (refl, refl);
  negate_lowest = λ r s x sp f. refl;
  negate_zero = λ r s x sp f. refl;
  before_overflow = λ r s b q. refl;
  overflow = λ r s b q. refl;
  serviced_before_tap = overdue 131072 16383 (omega arith) refl;
  serviced_at_tap = overdue 147456 16384 (omega arith) refl;
  watchdog_resets = λ s b x q e. step_resets m s b e x q;
}
