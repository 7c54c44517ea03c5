-- What the loop of `variables::Scope::seek` keeps.
use Rattle.variables.proofs.Laws.{Seeking}
use Prim.Native.Nat.{◌-◌}
use Rattle.variables.proofs.Scope.seek.Given as goal

abbrev pub invariant-loop-a : goal.invariant-loop-a
invariant-loop-a l = Seeking l.self.script.now l.self.scratch.now l.row.lo l.row.len l.w l.a l.b

abbrev pub decreases-loop-a : goal.decreases-loop-a
decreases-loop-a l = l.b - l.a
