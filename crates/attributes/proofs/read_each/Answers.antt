-- `attributes::read_each` meets its contract. Assumes nothing.
use Rattle.rules.specs.Machine.{get_ivar}
use Rattle.program.specs.Rows.{name_in}
use Rattle.ids.proofs.Members.{walk_step}
use Rattle.machine.proofs.receivers.Walk.{class-below, walk-on, folding_more}
use Rattle.attributes.specs.Attributes.{ProgramIs}
use Rattle.attributes.proofs.read_each.Goals as goal

pub read_one-requires-clause-x_lt_classes : goal.read_one-requires-clause-x_lt_classes
read_one-requires-clause-x_lt_classes c = class-below (walk_step c.loop-x.x-iterator c.next.new.self _ c.in-Some.ensures.steps) c.loop-x.invariant.1

pub loop-x-preserved : goal.loop-x-preserved
loop-x-preserved c = (
  folding_more c.args.state.now.sizes (ProgramIs c.args.program.now.script.now c.args.program.now.words.now c.args.program.now.counts)
      (λ L p. get_ivar L p (name_in c.args.program.now.script.now c.args.n)) c.args.state.now.words.now c.loop-x.invariant.0
      (walk_step c.loop-x.x-iterator c.next.new.self _ c.in-Some.ensures.steps) c.read_one.ensures c.in_ok-k.was,
  walk-on (walk_step c.loop-x.x-iterator c.next.new.self _ c.in-Some.ensures.steps) c.loop-x.invariant.1,
)
