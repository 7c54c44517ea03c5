-- `constructors::view::Flow::visit` and `walk` meet their contracts. Assumes nothing.
use mathlib.Core.List.{[]}
use mathlib.Core.Path.{refl}
use Rattle.constructors.proofs.Walking.{mark-good, mark-falls, next-falls, jump_inside, then_inside, else_inside, onward_none, onward_jump, onward_choice, walk_is}
use Rattle.constructors.proofs.view.Flow.+walk.Goals.{walk-in-Return, walk-in-Jump, walk-in-IfTrue}
use Rattle.constructors.proofs.view.Flow.+walk.Goals as goal

pub walk-visit-requires : goal.walk-visit-requires
walk-visit-requires t c = rw c.index-at.ensures (
  mark-falls [] c.args.self.now.indexed.program.counts c.requires.walk_good c.requires.b_lt_blocks c.requires.b_value _ c.decreases,
  (
    mark-good [] c.args.self.now.indexed.program.counts c.requires.walk_good c.requires.b_lt_blocks c.requires.b_value,
    jump_inside c.requires.walk_good c.requires.b_lt_blocks c.requires.b_value c.end_of.ensures c.args.self.now.inside c.in-Jump.is,
  ),
)

pub walk-visit-requires-in-IfTrue : goal.walk-visit-requires-in-IfTrue
walk-visit-requires-in-IfTrue t c = rw c.index-at.ensures (
  mark-falls [] c.args.self.now.indexed.program.counts c.requires.walk_good c.requires.b_lt_blocks c.requires.b_value _ c.decreases,
  (
    mark-good [] c.args.self.now.indexed.program.counts c.requires.walk_good c.requires.b_lt_blocks c.requires.b_value,
    then_inside c.requires.walk_good c.requires.b_lt_blocks c.requires.b_value c.end_of.ensures c.args.self.now.inside c.in-IfTrue.is,
  ),
)

pub walk-visit-requires-in-IfTrue-2 : goal.walk-visit-requires-in-IfTrue-2
walk-visit-requires-in-IfTrue-2 t c = (
  next-falls c.args.self.now.indexed.program.counts c.requires.walk_good c.requires.b_lt_blocks c.requires.b_value (rw c.index-at.ensures at c.visit-in-IfTrue.ensures.did) _ c.decreases,
  (
    c.visit-in-IfTrue.ensures.did.good,
    else_inside c.requires.walk_good c.requires.b_lt_blocks c.requires.b_value c.end_of.ensures c.args.self.now.inside c.in-IfTrue.is,
  ),
)

pub walk-returns-clause-did : goal.walk-returns-clause-did
walk-returns-clause-did t c =
    walk_is c.requires.walk_good c.requires.b_lt_blocks c.requires.b_value c.end_of.ensures {w2 = c.match-end_of.order.words.now} {n2 = c.match-end_of.order.done}
    (elim c.match-end_of.branch [
      | walk-in-Return w ↦ rw (w.order-is, c.index-at.ensures)
          (onward_none c.requires.walk_good c.requires.b_lt_blocks c.requires.b_value c.end_of.ensures w.in-Return.is)
      | walk-in-Jump w ↦ rw (w.order-is)
          (onward_jump c.requires.walk_good c.requires.b_lt_blocks c.requires.b_value c.end_of.ensures (rw c.index-at.ensures at w.visit.ensures.did) w.in-Jump.is)
      | walk-in-IfTrue w ↦ rw (w.order-is)
          (onward_choice c.requires.walk_good c.requires.b_lt_blocks c.requires.b_value c.end_of.ensures (rw c.index-at.ensures at w.visit-in-IfTrue.ensures.did) w.visit-in-IfTrue-2.ensures.did
          w.in-IfTrue.is)
    ]) refl (rw c.index-at.ensures refl)
