-- What the loop of `attributes::read_each` keeps.
use Rattle.rules.specs.Machine.{get_ivar}
use Rattle.program.specs.Rows.{name_in}
use Rattle.machine.proofs.receivers.Walk.{Walking, Folding}
use Rattle.attributes.specs.Attributes.{ProgramIs}
use Rattle.attributes.proofs.read_each.Given as goal

abbrev pub invariant-loop-x : goal.invariant-loop-x
invariant-loop-x l = Folding l.state.sizes (ProgramIs l.program.script.now l.program.words.now l.program.counts)
    (λ L p. get_ivar L p (name_in l.program.script.now l.n)) l.state.words.now l.set l.x-iterator.set l.k
    × Walking l.state.sizes.classes l.x-iterator.set
