-- `sends::Call::pass` meets its contract. Assumes nothing.
use Rattle.sends.proofs.Called.{args-passed}
use Rattle.sends.proofs.Call.pass.Goals as goal

pub returns : goal.returns
returns c = args-passed c.requires.calling c.requires.f_lt_functions c.fun.ensures c.pass_arguments.ensures
