-- `variables::Scope::turn` meets its contract. Assumes nothing.
use Rattle.variables.proofs.Laws.{turn_right-only, turn_left-only, turn_both}
use Rattle.variables.proofs.Scope.turn.Goals as goal

pub returns-in-0-default : goal.returns-in-0-default
returns-in-0-default c = search turn_right-only

pub returns-in_default-eq0 : goal.returns-in_default-eq0
returns-in_default-eq0 c = search turn_left-only

pub returns-in_default : goal.returns-in_default
returns-in_default c = search turn_both
