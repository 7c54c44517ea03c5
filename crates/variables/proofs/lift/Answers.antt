-- `variables::lift` meets its contract. Assumes nothing.
use Rattle.variables.proofs.Laws.{lifts}
use Rattle.variables.proofs.lift.Goals as goal

pub returns : goal.returns
returns c = search lifts
