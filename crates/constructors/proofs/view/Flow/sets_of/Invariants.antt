-- What the loop of `constructors::view::Flow::sets_of` keeps.
use Rattle.chains.specs.Left.{left}
use Rattle.constructors.proofs.Setting.{Setting}
use Rattle.constructors.proofs.view.Flow.sets_of.Given as goal

abbrev pub invariant-loop-i : goal.invariant-loop-i
invariant-loop-i l =
    Setting l.self.indexed.program.script.now l.self.indexed.program.words.now l.self.indexed.program.counts l.fn.k.0 l.fn.b.0 l.bits (left l.i-iterator)
