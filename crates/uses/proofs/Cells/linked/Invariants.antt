-- What the loop of `uses::Cells::linked` keeps.
use Rattle.uses.specs.Users.{Linked}
use Rattle.uses.proofs.Cells.linked.Given as goal

abbrev pub invariant-loop-i : goal.invariant-loop-i
invariant-loop-i l = Linked l.program.words.now l.program.counts.insns l.i l.cells.free l.cells.words.now
