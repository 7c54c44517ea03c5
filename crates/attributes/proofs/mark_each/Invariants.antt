-- What the loop of `attributes::mark_each` keeps.
use Rattle.attributes.proofs.Marks.{Marking}
use Rattle.attributes.proofs.mark_each.Given as goal

abbrev pub invariant-loop-c : goal.invariant-loop-c
invariant-loop-c l = Marking l.i.0 l.set l.initial.state l.state l.c-iterator.set
