use Rattle.board.proofs.Keys.{rows_are}
use Rattle.board.proofs.matrix.columns_of.Goals as goal

pub returns : goal.returns
returns c = cc (rows_are c.args.keys c.args.rows)
