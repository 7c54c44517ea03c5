-- `chains::build_index` meets its contract. Assumes nothing.
use Rattle.chains.proofs.Whole.{index_is}
use Rattle.chains.proofs.build_index.Goals as goal

pub returns : goal.returns
returns c =
    index_is c.args.program.now.ready c.requires c.chain.ensures c.chain-2.ensures c.chain-3.ensures
