-- What the loop of `variables::Scope::note_row` keeps.
use Rattle.variables.proofs.Laws.{Noting}
use Rattle.variables.proofs.Scope.note_row.Given as goal

abbrev pub invariant-loop-i : goal.invariant-loop-i
invariant-loop-i l = Noting l.self.script.now l.self.scratch.now l.base l.row.lo l.row.len l.initial.g l.i l.u l.g
