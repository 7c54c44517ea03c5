-- `state::Regs::take_insn` meets its contract. Assumes nothing.
use Rattle.state.proofs.Pushes.{insn_take}
use Rattle.state.proofs.Regs.take_insn.Goals as goal

pub returns : goal.returns
returns c = search insn_take
