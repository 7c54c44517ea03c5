-- `uses::Cells::linked` meets its contract. Assumes nothing.
use Rattle.uses.proofs.Linking.{all_start}
use Rattle.uses.proofs.Cells.linked.Goals as goal

pub loop-i-init : goal.loop-i-init
loop-i-init c = all_start c.args.program.now.ready c.requires c.fill.ensures
