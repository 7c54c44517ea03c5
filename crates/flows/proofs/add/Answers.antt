-- `flows::add` meets its contract. Assumes nothing.
use borrow.Author.Rules.{rules}
use Rattle.flows.proofs.Tallied.{add_same, add_other}
use Rattle.flows.proofs.add.Goals as goal

pub returns-then-eq : goal.returns-then-eq
returns-then-eq c = add_same c.args.k c.args.o c.in-One.is (search rules)

pub returns-else-eq : goal.returns-else-eq
returns-else-eq c = add_other c.args.k c.args.o c.in-One.is (search rules) c.union.ensures
