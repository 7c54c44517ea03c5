-- `steps::step_insn` meets its contract. Assumes nothing.
use Rattle.steps.proofs.Stepping.{front-row}
use Rattle.steps.proofs.step_insn.Goals as goal

pub visit-requires-clause-reads_insn : goal.visit-requires-clause-reads_insn
visit-requires-clause-reads_insn c = front-row c.requires.analysed c.take_insn-i.ensures.took c.requires.record_of c.row.ensures
