-- What the loop of `frames::put` keeps.
use Rattle.frames.proofs.Laws.{Putting}
use Rattle.frames.proofs.put.Given as goal

abbrev pub invariant-loop-left : goal.invariant-loop-left
invariant-loop-left l = Putting l.n l.initial.out l.out l.rest l.left
