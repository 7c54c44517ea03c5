-- What the loop of `flows::pass_callers` keeps.
use Rattle.flows.specs.Left.{callers_left}
use Rattle.flows.proofs.Callers.{Passing}
use Rattle.flows.proofs.pass_callers.Given as goal

abbrev pub invariant-loop-i : goal.invariant-loop-i
invariant-loop-i l = Passing l.program.words.now l.program.counts l.state.sizes l.state.words.now l.fn.f.0 l.n l.initial.x l.x (callers_left l.i-iterator)
