-- What the loop of `state::State::wake_callers` keeps.
use Prim.Native.Nat.{◌-◌}
use Rattle.state.proofs.Callers.{Calling}
use Rattle.state.proofs.State.wake_callers.Given as goal

abbrev pub invariant-loop-i : goal.invariant-loop-i
invariant-loop-i l = Calling l.f.0 l.k l.initial.self l.self l.from.0

abbrev pub decreases-loop-i : goal.decreases-loop-i
decreases-loop-i l = l.initial.self.sizes.insns - l.from.0
