-- `variables::Scope::operand` meets its contract. Assumes nothing.
use Rattle.variables.proofs.Laws.{operand_is}
use Rattle.variables.proofs.Scope.operand.Goals as goal

pub returns : goal.returns
returns c = search operand_is
