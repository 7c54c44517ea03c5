-- `state::State::push_block` meets its contract. Assumes nothing.
use mathlib.Core.Path.{refl}
use Rattle.state.proofs.Pushes.{block_push}
use Rattle.state.proofs.State.push_block.Goals as goal

pub returns : goal.returns
returns c = record {
  lent = record { words = refl; sizes = refl };
  did = block_push c.args.self.now.sizes c.args.self.now.words.now c.args.self.now.regs c.args.self.now.ready c.args.b.0 _ _ c.requires.b_lt_blocks (rw c.index.ensures at c.push.ensures);
}
