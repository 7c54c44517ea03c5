-- What the loop of `publish::write_each` keeps.
use Rattle.publish.proofs.Tables.{Giving}
use Rattle.publish.proofs.write_each.Given as goal

abbrev pub invariant-loop-i : goal.invariant-loop-i
invariant-loop-i g l = Giving (goal.F-post g l.word) l.n l.to-items l.i
