-- What the loop of `flows::returning::join_returns` keeps.
use Rattle.state.specs.View.{kinds_of}
use Rattle.chains.specs.Left.{left}
use Rattle.flows.proofs.returning.Sets.{Gathering}
use Rattle.flows.proofs.returning.join_returns.Given as goal

abbrev pub invariant-loop-j : goal.invariant-loop-j
invariant-loop-j l = Gathering l.code.program.words.now l.code.program.counts l.fn.f.0 (kinds_of l.state.sizes l.state.words.now) l.fn.met l.sum (left l.j-iterator)
