-- What the loop of `flows::returning::join_called` keeps.
use Rattle.flows.proofs.returning.Sets.{Summed}
use Rattle.flows.proofs.returning.join_called.Given as goal

abbrev pub invariant-loop-f : goal.invariant-loop-f
invariant-loop-f l = Summed l.code.program.words.now l.code.program.counts l.state.sizes l.state.words.now l.i.0 l.fn.first.0 l.sum l.f
