-- `chains::copy` meets its contract. Assumes nothing.
use Rattle.chains.proofs.Carry.{copy_start, copy_more, copy_done}
use native.Mathlib.Omega.{arith}
use Rattle.chains.proofs.copy.Goals as goal

pub loop-i-init : goal.loop-i-init
loop-i-init c = search copy_start

pub bounds-t-base : goal.bounds-t-base
bounds-t-base c = omega (arith, c.loop-i.invariant.only.len_same)

pub loop-i-preserved : goal.loop-i-preserved
loop-i-preserved c = search copy_more

pub returns : goal.returns
returns c = search copy_done
