-- `frames::put` meets its contract. Assumes nothing.
use Rattle.frames.proofs.Laws.{putting_more}
use Rattle.frames.proofs.put.Goals as goal

pub loop-left-preserved : goal.loop-left-preserved
loop-left-preserved c = search putting_more
