-- A walk visits fewer blocks that are not visited yet, and a visit stands above the walk that it may begin.
use Rattle.std.proofs.Common.{◌+◌, ◌*◌}
use Rattle.constructors.specs.Walks.{unseen}
use Rattle.constructors.proofs.view.Flow.+walk.Given as goal

abbrev pub decreases-visit : goal.decreases-visit
decreases-visit l = 2 * unseen l.order.now.words.now l.self.now.indexed.program.counts.blocks + 1

abbrev pub decreases-walk : goal.decreases-walk
decreases-walk l = 2 * unseen l.order.now.words.now l.self.now.indexed.program.counts.blocks
