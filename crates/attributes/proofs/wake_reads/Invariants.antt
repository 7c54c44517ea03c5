-- What the loop of `attributes::wake_reads` keeps.
use Prim.Native.Nat.{◌-◌}
use Rattle.attributes.proofs.Woken.{Waking}
use Rattle.attributes.proofs.wake_reads.Given as goal

abbrev pub invariant-loop-i : goal.invariant-loop-i
invariant-loop-i l = Waking l.program.script.now l.program.words.now l.program.counts l.n l.x.0 l.initial.state l.state l.from.0

abbrev pub decreases-loop-i : goal.decreases-loop-i
decreases-loop-i l = l.initial.state.sizes.insns - l.from.0
