-- `state::Regs::take_block` meets its contract. Assumes nothing.
use Rattle.state.proofs.Pushes.{block_take}
use Rattle.state.proofs.Regs.take_block.Goals as goal

pub returns : goal.returns
returns c = search block_take
