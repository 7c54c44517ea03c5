-- `program::writer::Draft::new_class` meets its contract. Assumes nothing.
use Rattle.program.proofs.Adding.{class-ready, class-stop, class-grew}
use Rattle.program.proofs.writer.Draft.new_class.Goals as goal

pub returns-then-self-n-clause-did : goal.returns-then-self-n-clause-did
returns-then-self-n-clause-did c = search class-stop

pub invariant_of-self : goal.invariant_of-self
invariant_of-self c = search class-ready

pub returns-clause-did : goal.returns-clause-did
returns-clause-did c = search class-grew
