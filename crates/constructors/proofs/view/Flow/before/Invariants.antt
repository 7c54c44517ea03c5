-- What the loop of `constructors::view::Flow::before` keeps.
use Prim.Native.Nat.{◌≤◌}
use Rattle.constructors.proofs.Meeting.{Meeting}
use Rattle.constructors.proofs.view.Flow.before.Given as goal

abbrev pub invariant-loop-q : goal.invariant-loop-q
invariant-loop-q l = Meeting l.self.indexed.program.words.now l.self.indexed.program.counts l.order.words.now l.order.done l.b.0 l.q l.bits × (l.i ≤ l.q)
