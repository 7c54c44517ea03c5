-- `decode::begin` meets its contract. Assumes nothing.
use Rattle.decode.proofs.Turns.{first_taken}
use Rattle.decode.proofs.begin.Goals as goal

pub returns-in-Totals : goal.returns-in-Totals
returns-in-Totals c = rw c.in-Totals.is (first_taken c.in-Totals.t (rw c.in-Totals.is at c.requires.1) c.requires.0 c.write_totals.ensures)
