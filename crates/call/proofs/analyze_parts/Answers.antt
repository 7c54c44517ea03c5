-- `call::analyze_parts` meets its contract. Assumes nothing.
use Rattle.call.proofs.Laws.{ran_is}
use Rattle.call.proofs.analyze_parts.Goals as goal

pub returns : goal.returns
returns c = search ran_is
