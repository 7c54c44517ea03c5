-- `state::State::at_rest` meets its contract. Assumes nothing.
use Rattle.state.proofs.State.at_rest.Goals as goal

pub returns : goal.returns
returns c v = c.at_rest.ensures c.args.self.now.sizes v c.args.self.now.words.now
