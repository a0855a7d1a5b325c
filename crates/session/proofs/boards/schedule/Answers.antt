use Rattle.std.proofs.Common.{rules}
use Rattle.session.proofs.Schedules.{as_any}
use Rattle.session.proofs.boards.schedule.Goals as goal

pub returns : goal.returns
returns c = (
  record { ref_ptr = c.leak.result.ref_ptr; now = c.leak.result.now },
  c.leak.ensures.value,
  rw (← c.new.ensures.answer) (search (rules, as_any)),
)
