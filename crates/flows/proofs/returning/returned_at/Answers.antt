-- `flows::returning::returned_at` meets its contract. Assumes nothing.
use Rattle.flows.proofs.returning.Sets.{return_here, return_none}
use Rattle.flows.proofs.returning.returned_at.Goals as goal

pub returns-then-row-gt0 : goal.returns-then-row-gt0
returns-then-row-gt0 c = return_here c.args.program.now c.args.j.0 c.insn-row.ensures c.if-row-gt0.true

pub returns : goal.returns
returns c = return_none c.args.program.now c.args.j.0 c.insn-row.ensures c.if-row-gt0.false
