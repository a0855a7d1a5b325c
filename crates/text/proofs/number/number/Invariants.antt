use Rattle.std.proofs.Common.{◌≡◌, ◌≤◌, drop}
use Rattle.text.specs.Numbers.{digits_after}
use Rattle.text.proofs.number.number.Given as goal

abbrev pub invariant-loop-digit : goal.invariant-loop-digit
invariant-loop-digit l = (digits_after l.limit 0 l.digits ≡ digits_after l.limit l.value (drop l.digit-index l.digits)) × (l.value ≤ l.limit)
