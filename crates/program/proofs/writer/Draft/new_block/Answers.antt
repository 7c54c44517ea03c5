-- `program::writer::Draft::new_block` meets its contract. Assumes nothing.
use Rattle.program.proofs.Adding.{block-ready, block-stop, block_grew}
use Rattle.program.proofs.writer.Draft.new_block.Goals as goal

pub returns-then-self-clause-did : goal.returns-then-self-clause-did
returns-then-self-clause-did c = search block-stop

pub invariant_of-self : goal.invariant_of-self
invariant_of-self c = search block-ready

pub returns-clause-did : goal.returns-clause-did
returns-clause-did c = search block_grew
