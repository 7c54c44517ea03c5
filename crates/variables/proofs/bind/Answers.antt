-- `variables::bind` meets its contract. Assumes nothing.
use Rattle.variables.proofs.Laws.{binds}
use Rattle.variables.proofs.bind.Goals as goal

pub returns : goal.returns
returns c = search binds
