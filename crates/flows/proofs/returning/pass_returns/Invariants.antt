-- What the loop of `flows::returning::pass_returns` keeps.
use Rattle.state.specs.View.{kinds_of}
use Rattle.chains.specs.Left.{left}
use Rattle.flows.proofs.returning.Passes.{Backing}
use Rattle.flows.proofs.returning.pass_returns.Given as goal

abbrev pub invariant-loop-j : goal.invariant-loop-j
invariant-loop-j l = Backing l.code.program.words.now l.code.program.counts l.fn.f.0 (kinds_of l.state.sizes l.state.words.now) l.initial.y l.y (left l.j-iterator)
