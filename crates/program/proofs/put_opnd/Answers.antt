-- `program::put_opnd` meets its contract. Assumes nothing.
use Rattle.program.proofs.Areas.{puts_one}
use Rattle.program.proofs.put_opnd.Goals as goal

pub returns : goal.returns
returns c = search puts_one
