-- `sends::Call::settled` meets its contract. Assumes nothing.
use Rattle.sends.proofs.Called.{call-idle}
use Rattle.sends.proofs.Call.settled.Goals as goal

pub returns-then-has_called : goal.returns-then-has_called
returns-then-has_called c =
    λ e. call-idle c.args.self.now.i.0 c.args.f.0 c.has_called.ensures c.if-has_called.true c.requires.calling c.requires.f_lt_functions c.fun.ensures
    (c.surely_keeps_all.ensures e)
