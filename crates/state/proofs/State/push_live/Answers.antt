-- `state::State::push_live` meets its contract. Assumes nothing.
use mathlib.Core.Path.{refl}
use Rattle.state.proofs.Lists.{live_pushed, dead_passed}
use Rattle.state.proofs.State.push_live.Goals as goal

pub returns-then-is_live : goal.returns-then-is_live
returns-then-is_live c = record {
  lent = c.push_insn.ensures.lent;
  did = live_pushed c.args.self.now.sizes c.args.self.now.words.now c.args.self.now.regs c.args.b.0 c.args.j.0 c.is_live.ensures c.if-is_live.true c.push_insn.ensures.did;
}

pub returns : goal.returns
returns c = record {
  lent = record { words = refl; sizes = refl };
  did = dead_passed c.args.self.now.sizes c.args.self.now.words.now c.args.self.now.regs c.args.b.0 c.args.j.0 c.args.self.now.ready c.is_live.ensures c.if-is_live.false;
}
