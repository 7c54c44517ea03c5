-- What the loop of `settled::settled` keeps.
use Rattle.kinds.specs.InWords.{words_of}
use Rattle.settled.proofs.Settling.{Settling}
use Rattle.settled.proofs.settled.Given as goal

abbrev pub invariant-loop-x : goal.invariant-loop-x
invariant-loop-x l = Settling l.program.script.now l.program.words.now l.program.counts l.state.sizes l.state.words.now l.n l.i.0 (words_of l.k) l.set l.x-iterator.set
