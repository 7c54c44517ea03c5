-- `lookups::is_main` meets its contract. Assumes nothing.
use Rattle.lookups.proofs.Rows.{main_is, main_other}
use Rattle.lookups.proofs.is_main.Goals as goal

pub returns-then-is_fun : goal.returns-then-is_fun
returns-then-is_fun c = main_is _ _ _ c.fun.ensures c.is_fun.ensures c.if-is_fun.true c.is_none.ensures

pub returns-else-is_fun : goal.returns-else-is_fun
returns-else-is_fun c = search main_other
