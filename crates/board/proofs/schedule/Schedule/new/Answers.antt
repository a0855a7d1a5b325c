use Rattle.std.proofs.Common.{sym, ◌∙◌, arith}
use Rattle.std.proofs.lemmas.Bool.{ltb-false}
use Rattle.board.proofs.Entries.{some_first, from_first, of_good}
use Rattle.board.proofs.schedule.Schedule.new.Goals as goal

pub returns : goal.returns
returns c =
    let es = c.args.entries.now in
    let all = some_first es (omega (arith, ltb-false)) ∙ sym c.in_default-first_bad.ensures in
    record { answer = of_good c.args.entries all; shown = from_first es all }
