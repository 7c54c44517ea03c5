-- `state::State::wake_callers` meets its contract. Assumes nothing.
use Rattle.state.proofs.Callers.{calling_start, calling_more}
use Rattle.state.proofs.State.wake_callers.Goals as goal

pub loop-i-init : goal.loop-i-init
loop-i-init c = calling_start c.args.f.0 c.args.k c.args.self.now

pub loop-i-preserved : goal.loop-i-preserved
loop-i-preserved c = calling_more c.loop-i.invariant c.next_caller.ensures c.in-Some.i c.in-Some.is c.wake_if_wider.ensures c.in_ok-wake_if_wider.was
