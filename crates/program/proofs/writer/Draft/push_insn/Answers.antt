-- `program::writer::Draft::push_insn` meets its contract. Assumes nothing.
use Rattle.program.proofs.Calling.{pushed_bare}
use Rattle.program.proofs.writer.Draft.push_insn.Goals as goal

pub returns-clause-did : goal.returns-clause-did
returns-clause-did c = search pushed_bare
