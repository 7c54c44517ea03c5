-- `variables::bind_again` meets its contract. Assumes nothing.
use Rattle.variables.proofs.Laws.{binds_again}
use Rattle.variables.proofs.bind_again.Goals as goal

pub returns : goal.returns
returns c = search binds_again
