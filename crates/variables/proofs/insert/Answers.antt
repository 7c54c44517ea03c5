-- `variables::insert` meets its contract. Assumes nothing.
use Rattle.variables.proofs.Laws.{insert_at, insert_new}
use Rattle.variables.proofs.insert.Goals as goal

pub returns-in-Ok : goal.returns-in-Ok
returns-in-Ok c = search insert_at

pub returns-in-Err : goal.returns-in-Err
returns-in-Err c = search insert_new
