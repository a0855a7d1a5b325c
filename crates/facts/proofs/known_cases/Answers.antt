use Rattle.facts.proofs.Known.{known}
use Rattle.facts.proofs.known_cases.Goals as goal

pub returns : goal.returns
returns g c = known g.B.Board
