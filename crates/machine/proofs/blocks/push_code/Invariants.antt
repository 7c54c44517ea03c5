-- What the loop of `machine::blocks::push_code` keeps.
use Rattle.rules.specs.Machine.{push_insn}
use Rattle.state.specs.Changes.{Every}
use Rattle.chains.specs.Left.{left}
use Rattle.machine.proofs.blocks.Walk.{Walking}
use Rattle.machine.proofs.blocks.push_code.Given as goal

abbrev pub invariant-loop-i : goal.invariant-loop-i
invariant-loop-i l = Walking push_insn Every (left l.initial.i-iterator) l.initial.state l.state (left l.i-iterator)
