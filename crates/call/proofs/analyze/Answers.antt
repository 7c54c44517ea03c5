-- `call::analyze` meets its contract. Assumes nothing.
use Rattle.call.proofs.Laws.{ran_through}
use Rattle.call.proofs.analyze.Goals as goal

pub returns : goal.returns
returns c = search ran_through
