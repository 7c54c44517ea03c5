-- What the loop of `flows::returning::pass_called` keeps.
use Rattle.flows.proofs.returning.Passes.{Calling}
use Rattle.flows.proofs.returning.pass_called.Given as goal

abbrev pub invariant-loop-f : goal.invariant-loop-f
invariant-loop-f l = Calling l.code.program.words.now l.code.program.counts l.state.sizes l.state.words.now l.i.0 l.fn.first.0 l.initial.y l.y l.f
