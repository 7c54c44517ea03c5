-- `state::State::set_live` meets its contract. Assumes nothing.
use mathlib.Core.Path.{refl}
use Rattle.state.proofs.Puts.{live-put}
use Rattle.state.proofs.State.set_live.Goals as goal

pub returns : goal.returns
returns c = record {
  lent = record { words = refl; sizes = refl };
  regs = refl;
  put = rw c.index.ensures (live-put c.args.self.now.sizes c.args.self.now.words.now c.args.self.now.ready.held c.args.b.0 c.requires.b_lt_blocks);
}
