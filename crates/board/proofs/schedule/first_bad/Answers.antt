use Rattle.std.proofs.Common.{get_or, sym, ap, ◌∙◌, arith}
use Rattle.std.proofs.lemmas.List.{drop_all}
use Rattle.board.specs.Schedule.{bad_from}
use Rattle.board.proofs.Entries.{no_entry, good_below, good_more, bad_here}
use Rattle.board.proofs.schedule.first_bad.Goals as goal

pub returns-then-not-is_good : goal.returns-then-not-is_good
returns-then-not-is_good c =
    sym (c.loop-i.invariant.1 ∙ bad_here c.args.entries.now c.loop-i.i c.loop-i.low c.loop-i.limit c.loop-i-test.true (sym c.if-not-is_good.ensures))

pub overflow_add-low : goal.overflow_add-low
overflow_add-low c = omega (arith, good_below c.loop-i.low c.loop-i.limit (get_or c.args.entries.now c.loop-i.i no_entry) (sym c.if-not-is_good.ensures))

pub loop-i-preserved : goal.loop-i-preserved
loop-i-preserved c =
    (omega arith, c.loop-i.invariant.1 ∙ good_more c.args.entries.now c.loop-i.i c.loop-i.low c.loop-i.limit c.loop-i-test.true (sym c.if-not-is_good.ensures))

pub returns : goal.returns
returns c =
    sym (c.loop-i.invariant.1 ∙ ap (bad_from c.loop-i.i c.loop-i.low c.loop-i.limit) (drop_all c.loop-i.i c.args.entries.now (omega arith)))
