-- `flows::take` meets its contract. Assumes nothing.
use Rattle.flows.proofs.Tallied.{take_any}
use Rattle.state.specs.View.{kinds_of}
use Rattle.flows.proofs.take.Goals as goal

pub returns-then-is_any : goal.returns-then-is_any
returns-then-is_any c =
    take_any (kinds_of c.args.state.now.sizes c.args.state.now.words.now) c.args.a c.args.t c.args.o
    c.before-2.ensures c.kind_of-k.ensures c.is_empty.ensures c.is_any.ensures
    c.if-is_empty.false c.if-is_any.true
