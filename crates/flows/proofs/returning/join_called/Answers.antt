-- `flows::returning::join_called` meets its contract. Assumes nothing.
use native.Mathlib.Omega.{arith}
use Rattle.flows.proofs.returning.Sets.{summed_more, summed_past, summed_done}
use Rattle.flows.proofs.returning.join_called.Goals.{then-has_called+in_ok-sum, else-has_called}
use Rattle.flows.proofs.returning.join_called.Goals as goal

pub loop-f-preserved : goal.loop-f-preserved
loop-f-preserved c = elim c.if-has_called.branch [
  | then-has_called+in_ok-sum w ↦
      rw w.sum-is (summed_more c.loop-f.invariant (omega arith) c.has_called.ensures _ w.if-has_called.true w.join_returns.ensures w.in_ok-sum.was)
  | else-has_called w ↦ rw w.sum-is (summed_past c.loop-f.invariant (omega arith) c.has_called.ensures w.if-has_called.false)
]

pub returns : goal.returns
returns c = summed_done c.loop-f.invariant (omega arith) (omega arith) c.set.ensures
