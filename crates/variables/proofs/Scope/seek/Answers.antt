-- `variables::Scope::seek` meets its contract. Assumes nothing.
use Rattle.variables.proofs.Laws.{seek_start, seek_down, seek_at, seek_up}
use Rattle.variables.proofs.Scope.seek.Goals as goal

pub loop-a-init : goal.loop-a-init
loop-a-init c = search seek_start

pub loop-a-preserved-in-Less : goal.loop-a-preserved-in-Less
loop-a-preserved-in-Less c = search seek_down

pub returns-in-Equal : goal.returns-in-Equal
returns-in-Equal c = search seek_at

pub loop-a-preserved : goal.loop-a-preserved
loop-a-preserved c = search seek_up
