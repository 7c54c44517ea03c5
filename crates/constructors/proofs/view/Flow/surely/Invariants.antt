-- What the loop of `constructors::view::Flow::surely` keeps.
use mathlib.Core.Path.{◌≡◌}
use Rattle.constructors.proofs.Setting.{Passing}
use Rattle.constructors.proofs.view.Flow.surely.Given as goal

abbrev pub invariant-loop-i : goal.invariant-loop-i
invariant-loop-i l =
    Passing l.self.indexed.program.script.now l.self.indexed.program.words.now l.self.indexed.program.counts l.fn.k.0 l.initial.order.done
    l.initial.order.words.now l.order.words.now l.set l.i
    × (l.order.done ≡ l.initial.order.done)
