-- `program::writer::Draft::next_block` meets its contract. Assumes nothing.
use Rattle.program.proofs.Reading.{next-is}
use Rattle.program.proofs.writer.Draft.next_block.Goals as goal

pub returns-clause-did : goal.returns-clause-did
returns-clause-did c = search next-is
