-- `state::State::push_insn` meets its contract. Assumes nothing.
use mathlib.Core.Path.{refl}
use Rattle.state.proofs.Pushes.{insn_push}
use Rattle.state.proofs.State.push_insn.Goals as goal

pub returns : goal.returns
returns c = record {
  lent = record { words = refl; sizes = refl };
  did = insn_push c.args.self.now.sizes c.args.self.now.words.now c.args.self.now.regs c.args.self.now.ready c.args.i.0 _ _ c.requires.i_lt_insns (rw c.index.ensures at c.push.ensures);
}
