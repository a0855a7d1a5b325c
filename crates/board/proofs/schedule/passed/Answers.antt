use Rattle.std.proofs.Common.{rules, tests, ◌∙◌}
use Rattle.std.proofs.lemmas.Iterator.Consumers.{count_from_yields_List}
use Rattle.std.proofs.lemmas.Iterator.Search.{YieldsList-from_take_while}
use Rattle.std.proofs.lemmas.Iterator.{YieldsList-from_slice}
use Rattle.board.specs.Schedule.{has_come}
use Rattle.board.proofs.Entries.{passed_is}
use Rattle.board.proofs.schedule.passed.Goals as goal

pub returns : goal.returns
returns c =
    count_from_yields_List c.take_while.result _ c.count.ensures.ran (
    YieldsList-from_take_while _ (has_come c.args.at) (YieldsList-from_slice c.args.coming.now cc) c.take_while.ensures.closure c.take_while.ensures.done (λ x b q k. search (rules, tests))
    )
    ∙ passed_is c.args.coming.now c.args.at
