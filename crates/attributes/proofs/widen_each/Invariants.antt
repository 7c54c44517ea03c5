-- What the loop of `attributes::widen_each` keeps.
use Rattle.rules.specs.Machine.{set_ivar}
use Rattle.program.specs.Rows.{name_in}
use Rattle.machine.proofs.receivers.Walk.{Walking, Going}
use Rattle.attributes.specs.Attributes.{ProgramIs}
use Rattle.attributes.proofs.widen_each.Given as goal

abbrev pub invariant-loop-x : goal.invariant-loop-x
invariant-loop-x l = Going (ProgramIs l.program.script.now l.program.words.now l.program.counts)
    (λ L p. set_ivar L p (name_in l.program.script.now l.n) l.k) l.set l.x-iterator.set l.initial.state l.state
    × Walking l.initial.state.sizes.classes l.x-iterator.set
