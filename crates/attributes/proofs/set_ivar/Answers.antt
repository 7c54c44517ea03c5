-- `attributes::set_ivar` meets its contract. Assumes nothing.
use Rattle.attributes.proofs.Widened.{set-met}
use Rattle.attributes.proofs.set_ivar.Goals as goal

pub returns : goal.returns
returns c = set-met c.args.program.now.script.now c.args.program.now.words.now c.args.program.now.counts c.args.state.now c.args.n c.args.o c.args.v
    (rw (c.tables-tables.ensures.0, c.tables-tables.ensures.1) at c.classes_of.ensures) c.widen_each.result
    (rw (c.tables-tables.ensures.0, c.tables-tables.ensures.1) at c.kind_of-k.ensures) c.in_ok-set.was c.widen_each.ensures
