-- `variables::Scope::note` meets its contract. Assumes nothing.
use Rattle.variables.proofs.Laws.{note_first, note_other, note_new}
use Rattle.variables.proofs.Scope.note.Goals as goal

pub returns-then-g-q-eq0 : goal.returns-then-g-q-eq0
returns-then-g-q-eq0 c = search note_first

pub returns-else-g-q-eq0 : goal.returns-else-g-q-eq0
returns-else-g-q-eq0 c = search note_other

pub returns-in_default : goal.returns-in_default
returns-in_default c = search note_new
