-- `flows::pass_one` meets its contract. Assumes nothing.
use Rattle.flows.proofs.Tallied.{pass_both}
use Rattle.state.specs.View.{kinds_of}
use Rattle.flows.proofs.pass_one.Goals as goal

pub returns : goal.returns
returns c =
    pass_both (kinds_of c.args.state.now.sizes c.args.state.now.words.now) c.args.x c.args.o c.lower.ensures c.take.ensures
