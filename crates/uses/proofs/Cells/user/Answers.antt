-- `uses::Cells::user` meets its contract. Assumes nothing.
use Rattle.uses.proofs.Linking.{first_some, first-none}
use Rattle.uses.proofs.Cells.user.Goals as goal

pub returns-then-h-lt-USES_MOST : goal.returns-then-h-lt-USES_MOST
returns-then-h-lt-USES_MOST c = search first_some

pub returns-else-h-lt-USES_MOST : goal.returns-else-h-lt-USES_MOST
returns-else-h-lt-USES_MOST c = search first-none
