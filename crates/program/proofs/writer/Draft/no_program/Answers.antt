-- `program::writer::Draft::no_program` meets its contract. Assumes nothing.
use mathlib.Core.Path.{refl}
use Rattle.program.proofs.Adding.{starts_is}
use Rattle.program.proofs.writer.Draft.no_program.Goals as goal

pub invariant_of-result : goal.invariant_of-result
invariant_of-result c =
    record { ready = (starts_is _ refl c.requires c.put_class.ensures c.put_class-2.ensures c.put_class-3.ensures c.put_class-4.ensures).ok }

pub returns-clause-starts : goal.returns-clause-starts
returns-clause-starts c = starts_is _ refl c.requires c.put_class.ensures c.put_class-2.ensures c.put_class-3.ensures c.put_class-4.ensures
