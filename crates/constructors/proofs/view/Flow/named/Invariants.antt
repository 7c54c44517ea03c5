-- What the loop of `constructors::view::Flow::named` keeps.
use Rattle.constructors.proofs.Naming.{Naming}
use Rattle.constructors.proofs.view.Flow.named.Given as goal

abbrev pub invariant-loop-a : goal.invariant-loop-a
invariant-loop-a l = Naming l.program.script.now l.program.words.now l.k.0 l.fn.name.start l.fn.name.len l.bits l.a
