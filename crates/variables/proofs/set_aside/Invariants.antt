-- What the loop of `variables::set_aside` keeps.
use Rattle.variables.proofs.Laws.{Leaving}
use Rattle.variables.proofs.set_aside.Given as goal

abbrev pub invariant-loop-i : goal.invariant-loop-i
invariant-loop-i l = Leaving l.script l.mark l.k l.to l.initial.scratch l.i l.n l.scratch
