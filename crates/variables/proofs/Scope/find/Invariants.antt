-- What the loop of `variables::Scope::find` keeps.
use Rattle.variables.proofs.Laws.{Finding}
use Rattle.variables.proofs.Scope.find.Given as goal

abbrev pub invariant-loop-i : goal.invariant-loop-i
invariant-loop-i l = Finding l.self.script.now l.self.scratch.now l.n l.name l.i
