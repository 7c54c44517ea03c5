-- `sctp::starts::main_entry` meets its contract. Assumes nothing.
use Rattle.sctp.proofs.starts.Starting.{main-below, main-entered}
use Rattle.sctp.proofs.starts.main_entry.Goals as goal

pub fun-requires : goal.fun-requires
fun-requires c = main-below c.requires.suited.1 c.requires.functions_nonzero c.main_function.ensures

pub returns : goal.returns
returns c = main-entered c.requires.suited.1 c.requires.functions_nonzero c.main_function.ensures c.fun.ensures
