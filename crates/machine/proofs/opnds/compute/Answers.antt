-- `machine::opnds::compute` meets its contract. Assumes nothing.
use Rattle.machine.proofs.opnds.Given.{computed}
use Rattle.machine.proofs.opnds.compute.Goals as goal

pub returns : goal.returns
returns c = computed c.args.state.now.sizes c.args.state.now.words.now c.args.o c.args.v c.args.w c.kind_of.ensures c.kind_of-2.ensures c.combine.ensures
