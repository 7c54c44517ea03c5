-- `variables::Scope::name` meets its contract. Assumes nothing.
use Rattle.variables.proofs.Laws.{named-is}
use Rattle.variables.proofs.Scope.name.Goals as goal

pub returns : goal.returns
returns c = search named-is
