-- What the loop of `sends::passing::pass_arguments` keeps.
use Rattle.chains.specs.Left.{left}
use Rattle.machine.proofs.blocks.Walk.{Walking}
use Rattle.sends.specs.passing.Passing.{pass_to, CallIn}
use Rattle.sends.proofs.passing.pass_arguments.Given as goal

abbrev pub invariant-loop-j : goal.invariant-loop-j
invariant-loop-j l = Walking (λ L p. pass_to L p l.i.0) (CallIn l.program.words.now l.program.counts l.i.0) (left l.initial.j-iterator) l.initial.state l.state (left l.j-iterator)
