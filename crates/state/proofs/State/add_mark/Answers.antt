-- `state::State::add_mark` meets its contract. Assumes nothing.
use Rattle.state.proofs.Puts.{mark_ready}
use Rattle.state.proofs.State.add_mark.Goals as goal

pub invariant_of-self : goal.invariant_of-self
invariant_of-self c = record {
  ready = mark_ready c.args.self.now.sizes c.args.self.now.words.now c.args.self.now.ready.held c.args.self.now.regs c.args.at c.args.i.0 c.args.self.now.ready c.requires.at_bound.0
      c.requires.at_bound.1 c.requires.at_bound.2 (rw c.index.ensures at c.set_bit.ensures);
}
