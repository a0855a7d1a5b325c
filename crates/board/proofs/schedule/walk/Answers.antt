use Rattle.std.proofs.Common.{take, sym, ◌∙◌, arith}
use Rattle.std.proofs.lemmas.List.{length-take-le}
use Rattle.board.proofs.Entries.{passed_within, shown_is, is_last, is_none}
use Rattle.board.proofs.schedule.walk.Goals as goal

pub slice_bounds-last-end : goal.slice_bounds-last-end
slice_bounds-last-end c = sym (length-take-le c.passed-come.result c.args.coming.now (omega (arith, passed_within c.args.coming.now c.args.at)))

pub returns-in-Some : goal.returns-in-Some
returns-in-Some c =
    let n = c.passed-come.result in
    let es = c.args.coming.now in
    (c.passed-come.ensures, is_last c.args.current (take n es) c.in-Some.entry.now c.in-Some.ensures.value ∙ shown_is c.args.current es c.args.at n c.passed-come.ensures)

pub returns-in-None : goal.returns-in-None
returns-in-None c =
    let n = c.passed-come.result in
    let es = c.args.coming.now in
    (c.passed-come.ensures, is_none c.args.current (take n es) c.in-None.ensures.value ∙ shown_is c.args.current es c.args.at n c.passed-come.ensures)
