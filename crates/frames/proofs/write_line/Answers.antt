-- `frames::write_line` meets its contract. Assumes nothing.
use Rattle.std.proofs.Common.{rules}
use Rattle.frames.proofs.Laws.{lining_start, lining_more, lining_done}
use Rattle.frames.proofs.write_line.Goals as goal

pub loop-k-init : goal.loop-k-init
loop-k-init c = lining_start _ _ _ c.requires.0 c.requires.1 c.byte.ensures c.put.ensures

pub loop-k-preserved : goal.loop-k-preserved
loop-k-preserved c = lining_more c.loop-k.invariant c.loop-k-test.true (search rules) (search rules)

pub returns : goal.returns
returns c = lining_done c.loop-k.invariant c.loop-k-test.false
