-- `state::State::set_ivar` meets its contract. Assumes nothing.
use mathlib.Core.Path.{refl}
use Rattle.state.proofs.Puts.{ivar_put}
use Rattle.state.proofs.State.set_ivar.Goals as goal

pub returns : goal.returns
returns c = record {
  lent = record { words = refl; sizes = refl };
  regs = refl;
  put = rw c.index.ensures (ivar_put c.args.self.now.sizes c.args.self.now.words.now c.args.self.now.ready.held c.args.c.0 c.args.a c.args.k _ _ c.requires.c_lt_classes.0 c.requires.c_lt_classes.1
      c.tag.ensures c.payload.ensures);
}
