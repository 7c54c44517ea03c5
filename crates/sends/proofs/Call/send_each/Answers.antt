-- `sends::Call::send_each` meets its contract. Assumes nothing.
use Rattle.program.specs.Rows.{name_in}
use Rattle.ids.proofs.Members.{walk_step}
use Rattle.machine.proofs.receivers.Walk.{walk-on, going_start, going_more}
use Rattle.sends.specs.Sends.{CallsIn, send_to}
use Rattle.sends.proofs.Called.{walking_any}
use Rattle.sends.proofs.Call.send_each.Goals as goal

pub loop-k-init : goal.loop-k-init
loop-k-init c = rw (c.into_iter-k-iterator.ensures.into_iter_gives, c.classes-k-items.ensures) (
  going_start (CallsIn c.args.self.now.code.now.program.script.now c.args.self.now.code.now.program.words.now c.args.self.now.code.now.program.counts c.args.self.now.i.0 c.args.self.now.args)
      (λ L p. send_to L p c.args.self.now.i.0 (name_in c.args.self.now.code.now.program.script.now c.args.n)) c.args.set c.args.state.now,
  walking_any c.ranges.set.fits,
)

pub loop-k-preserved : goal.loop-k-preserved
loop-k-preserved c = (
  going_more (CallsIn c.args.self.now.code.now.program.script.now c.args.self.now.code.now.program.words.now c.args.self.now.code.now.program.counts c.args.self.now.i.0 c.args.self.now.args)
      (λ L p. send_to L p c.args.self.now.i.0 (name_in c.args.self.now.code.now.program.script.now c.args.n)) c.loop-k.invariant.0
      (walk_step c.loop-k.k-iterator c.next.new.self _ c.in-Some.ensures.steps) c.send_to.ensures c.in_ok-send_to.was,
  walk-on (walk_step c.loop-k.k-iterator c.next.new.self _ c.in-Some.ensures.steps) c.loop-k.invariant.1,
)
