-- `state::State::add_caller` meets its contract. Assumes nothing.
use Rattle.state.proofs.Puts.{caller-new}
use Rattle.state.proofs.State.add_caller.Goals as goal

pub returns : goal.returns
returns c = let row = rw c.index.ensures at c.row.ensures in record { lent = c.add_mark.ensures.lent; regs = c.add_mark.ensures.regs; added = search caller-new }
