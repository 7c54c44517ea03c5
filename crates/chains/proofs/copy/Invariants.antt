-- What the loop of `chains::copy` keeps.
use Rattle.chains.proofs.Carry.{Copying}
use Rattle.chains.proofs.copy.Given as goal

abbrev pub invariant-loop-i : goal.invariant-loop-i
invariant-loop-i l = Copying l.base l.at l.n l.scratch l.initial.t l.t l.i
