-- What the loop of `flows::join_sets` keeps.
use Rattle.flows.specs.Left.{callers_left}
use Rattle.flows.proofs.Joining.{Left}
use Rattle.flows.proofs.join_sets.Given as goal

abbrev pub invariant-loop-i : goal.invariant-loop-i
invariant-loop-i l = Left l.program.words.now l.program.counts l.state.sizes l.state.words.now l.fn.f.0 l.n l.sum l.last (callers_left l.i-iterator)
