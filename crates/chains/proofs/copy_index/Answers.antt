-- `chains::copy_index` meets its contract. Assumes nothing.
use Rattle.chains.proofs.Carry.{index-carried}
use Rattle.chains.proofs.copy_index.Goals as goal

pub returns : goal.returns
returns c = search index-carried
