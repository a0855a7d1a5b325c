use Rattle.std.proofs.Common.{◌≡◌, [], length, vec_items}
use Rattle.text.specs.Hex.{pairs_after}
use Rattle.text.proofs.hex.pairs_of.Given as goal

abbrev pub invariant-loop-left : goal.invariant-loop-left
invariant-loop-left l = pairs_after [] l.digits ≡ pairs_after (vec_items l.bytes) l.left

abbrev pub decreases-loop-left : goal.decreases-loop-left
decreases-loop-left l = length l.left
