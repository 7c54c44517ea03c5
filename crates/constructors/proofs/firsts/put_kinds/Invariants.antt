-- What the loop of `constructors::firsts::put_kinds` keeps.
use Rattle.constructors.proofs.firsts.Laws.{Putting}
use Rattle.constructors.proofs.firsts.put_kinds.Given as goal

abbrev pub invariant-loop-a : goal.invariant-loop-a
invariant-loop-a l = Putting l.tags l.payloads l.n l.bits l.fn.words l.words l.a
