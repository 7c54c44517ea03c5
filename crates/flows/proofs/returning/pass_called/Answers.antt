-- `flows::returning::pass_called` meets its contract. Assumes nothing.
use native.Mathlib.Omega.{arith}
use Rattle.flows.proofs.returning.Passes.{calling_more, calling_past, calling_done}
use Rattle.flows.proofs.returning.pass_called.Goals.{then-has_called, else-has_called}
use Rattle.flows.proofs.returning.pass_called.Goals as goal

pub loop-f-preserved : goal.loop-f-preserved
loop-f-preserved c = elim c.if-has_called.branch [
  | then-has_called w ↦ rw w.y-is (calling_more c.loop-f.invariant (omega arith) c.has_called.ensures w.if-has_called.true w.pass_returns-y.ensures)
  | else-has_called w ↦ rw w.y-is (calling_past c.loop-f.invariant (omega arith) c.has_called.ensures w.if-has_called.false)
]

pub returns : goal.returns
returns c = calling_done c.loop-f.invariant (omega arith) (omega arith)
