-- `sends::Call::enter` meets its contract. Assumes nothing.
use Rattle.sends.proofs.Called.{caller-known}
use Rattle.sends.proofs.Call.enter.Goals as goal

pub returns-then-has_called : goal.returns-then-has_called
returns-then-has_called c = caller-known c.args.self.now.i.0 c.args.f.0 c.args.state.now c.has_called.ensures c.if-has_called.true c.args.self.now.args
