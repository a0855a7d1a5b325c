use Rattle.std.proofs.Common.{◌≡◌, ◌-◌, length, ap, ◌∙◌, arith}
use Rattle.std.proofs.lemmas.List.{length-drop}
use Rattle.board.proofs.Entries.{passed_within}
use Rattle.board.proofs.schedule.ScheduleBoard.advance.Goals as goal

pub overflow_add-self : goal.overflow_add-self
overflow_add-self c =
    let s = c.args.self.now in
    let within = passed_within c.coming.result.now c.min-at.result in
    let left : length c.coming.result.now ≡ length s.entries.now - s.next = ap length c.coming.ensures ∙ length-drop s.next s.entries.now in
    omega (arith, c.walk-come.ensures.0)
