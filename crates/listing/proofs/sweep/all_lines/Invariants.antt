use Rattle.std.proofs.Common.{◌≡◌, suc, ◌-◌, ◌++◌, vec_items}
use Rattle.listing.specs.Sweep.{sweep_end, lines_from, lines_of}
use Rattle.listing.proofs.sweep.all_lines.Given as goal

abbrev pub invariant-loop-line : goal.invariant-loop-line
invariant-loop-line l = lines_of l.image ≡ vec_items l.lines ++ lines_from (suc (sweep_end - l.at)) l.image l.at

abbrev pub decreases-loop-line : goal.decreases-loop-line
decreases-loop-line l = sweep_end - l.at
