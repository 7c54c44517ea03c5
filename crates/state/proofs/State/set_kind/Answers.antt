-- `state::State::set_kind` meets its contract. Assumes nothing.
use mathlib.Core.Path.{refl}
use Rattle.state.proofs.Puts.{kind-put}
use Rattle.state.proofs.State.set_kind.Goals as goal

pub returns : goal.returns
returns c = record {
  lent = record { words = refl; sizes = refl };
  regs = refl;
  put = rw c.index-at.ensures (kind-put c.args.self.now.sizes c.args.self.now.words.now c.args.self.now.ready.held c.args.i.0 c.args.k _ _ c.requires.i_lt_insns c.tag.ensures c.payload.ensures);
}
