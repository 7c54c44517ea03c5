-- `program::writer::put_given` meets its contract. Assumes nothing.
use native.Mathlib.Omega.{arith}
use Rattle.program.proofs.Areas.{puts_then}
use Rattle.program.proofs.writer.put_given.Goals as goal

pub returns-in-Two : goal.returns-in-Two
returns-in-Two c = rw c.in-Two.is (puts_then c.put_opnd-in-Two.ensures (omega arith) c.put_opnd-in-Two-2.ensures)
