use Rattle.writes.proofs.Told.{told}
use Rattle.writes.proofs.writes_tell.Goals as goal

pub returns : goal.returns
returns c = told
