-- `attributes::widen_each` meets its contract. Assumes nothing.
use Rattle.rules.specs.Machine.{set_ivar}
use Rattle.program.specs.Rows.{name_in}
use Rattle.ids.proofs.Members.{walk_step}
use Rattle.machine.proofs.receivers.Walk.{class-below, walk-on, going_more}
use Rattle.attributes.specs.Attributes.{ProgramIs}
use Rattle.attributes.proofs.widen_each.Goals as goal

pub widen_one-requires-clause-x_lt_classes : goal.widen_one-requires-clause-x_lt_classes
widen_one-requires-clause-x_lt_classes c = rw c.loop-x.invariant.0.along.lent.sizes (class-below (walk_step c.loop-x.x-iterator c.next.new.self _ c.in-Some.ensures.steps) c.loop-x.invariant.1)

pub loop-x-preserved : goal.loop-x-preserved
loop-x-preserved c = (
  going_more (ProgramIs c.args.program.now.script.now c.args.program.now.words.now c.args.program.now.counts)
      (λ L p. set_ivar L p (name_in c.args.program.now.script.now c.args.n) c.args.k) c.loop-x.invariant.0
      (walk_step c.loop-x.x-iterator c.next.new.self _ c.in-Some.ensures.steps) c.widen_one.ensures c.in_ok-widen_one.was,
  walk-on (walk_step c.loop-x.x-iterator c.next.new.self _ c.in-Some.ensures.steps) c.loop-x.invariant.1,
)
