-- `state::Regs::at_rest` meets its contract. Assumes nothing.
use Rattle.state.proofs.Pushes.{rest-told}
use Rattle.state.proofs.Regs.at_rest.Goals as goal

pub returns : goal.returns
returns c z v m = rest-told z v m c.args.self.now
