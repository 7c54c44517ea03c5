-- `attributes::mark_reads` meets its contract. Assumes nothing.
use Rattle.attributes.proofs.Marks.{marks_met}
use Rattle.attributes.proofs.mark_reads.Goals as goal

pub returns : goal.returns
returns c = marks_met c.args.state.now c.args.i.0 c.args.o (rw (c.tables.ensures.0, c.tables.ensures.1) at c.classes_of.ensures) c.in_ok-set.was c.mark_each.ensures
