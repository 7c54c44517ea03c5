-- `constructors::view::Flow::order_from` meets its contract. Assumes nothing.
use Rattle.constructors.proofs.Walking.{clear-good, walk-done}
use Rattle.constructors.proofs.view.Flow.order_from.Goals as goal

pub walk-requires-clause-walk_good : goal.walk-requires-clause-walk_good
walk-requires-clause-walk_good c = clear-good c.args.self.now.indexed.program.counts c.fill.ensures c.requires.walk_size_in_bounds.0 c.args.self.now.indexed.program.ready.blocks

pub returns-clause-walked : goal.returns-clause-walked
returns-clause-walked c =
    walk-done c.args.self.now.indexed.program.counts c.fill.ensures c.requires.walk_size_in_bounds.0 c.args.self.now.indexed.program.ready.blocks _ c.walk.ensures.did
