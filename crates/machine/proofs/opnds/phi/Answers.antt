-- `machine::opnds::phi` meets its contract. Assumes nothing.
use Rattle.machine.proofs.opnds.Given.{joined_two}
use Rattle.machine.proofs.opnds.phi.Goals as goal

pub returns : goal.returns
returns c =
    joined_two c.args.state.now.sizes c.args.state.now.words.now c.args.b.0 c.args.c.0 c.args.v c.args.w c.is_live.ensures c.is_live-2.ensures
    c.join_if-one.ensures c.join_if.ensures
