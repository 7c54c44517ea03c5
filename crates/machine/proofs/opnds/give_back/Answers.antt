-- `machine::opnds::give_back` meets its contract. Assumes nothing.
use Rattle.machine.proofs.opnds.Acting.{return_nothing, return_kind}
use Rattle.machine.proofs.opnds.give_back.Goals as goal

pub returns-then-is_empty : goal.returns-then-is_empty
returns-then-is_empty c = return_nothing c.args.state.now c.args.f.0 c.args.o (rw (c.tables.ensures.0, c.tables.ensures.1) at c.kind_of-k.ensures) c.is_empty.ensures c.if-is_empty.true

pub returns : goal.returns
returns c = return_kind c.args.state.now c.args.f.0 c.args.o (rw (c.tables.ensures.0, c.tables.ensures.1) at c.kind_of-k.ensures) c.is_empty.ensures
    c.wake_callers.result c.if-is_empty.false c.wake_callers.ensures
