-- `program::writer::copy_opnds` meets its contract. Assumes nothing.
use native.Mathlib.Omega.{arith}
use lib.ListN.{length-set}
use Rattle.program.proofs.Areas.{copy_start, copy_more, copy_done}
use Rattle.program.proofs.writer.copy_opnds.Goals as goal

pub loop-i-init : goal.loop-i-init
loop-i-init c = search copy_start

pub loop-i-preserved : goal.loop-i-preserved
loop-i-preserved c = search copy_more

pub returns : goal.returns
returns c = search copy_done
