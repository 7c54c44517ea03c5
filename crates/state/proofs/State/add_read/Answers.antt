-- `state::State::add_read` meets its contract. Assumes nothing.
use Rattle.state.proofs.Puts.{read_set}
use Rattle.state.proofs.State.add_read.Goals as goal

pub returns : goal.returns
returns c = let row = rw c.index.ensures at c.row.ensures in record { lent = c.add_mark.ensures.lent; regs = c.add_mark.ensures.regs; put = search read_set }
