-- `variables::Scope::find` meets its contract. Assumes nothing.
use Rattle.variables.proofs.Laws.{find_none, find_hit, find_more}
use Rattle.variables.proofs.Scope.find.Goals as goal

pub returns-then-same_bytes : goal.returns-then-same_bytes
returns-then-same_bytes c = search find_hit

pub loop-i-preserved : goal.loop-i-preserved
loop-i-preserved c = search find_more

pub returns : goal.returns
returns c = search find_none
