-- `variables::retag` meets its contract. Assumes nothing.
use Rattle.variables.proofs.Laws.{retagged}
use Rattle.variables.proofs.retag.Goals as goal

pub returns : goal.returns
returns c = search retagged
