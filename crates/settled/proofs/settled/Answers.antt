-- `settled::settled` meets its contract. Assumes nothing.
use Rattle.ids.proofs.Members.{walk_step}
use Rattle.machine.proofs.receivers.Walk.{class-below}
use Rattle.settled.proofs.Settling.{settling_more}
use Rattle.settled.proofs.settled.Goals as goal

pub settled_in-requires-clause-x_lt_classes : goal.settled_in-requires-clause-x_lt_classes
settled_in-requires-clause-x_lt_classes c = let walking = c.loop-x.invariant.walking in
    (class-below (walk_step c.loop-x.x-iterator c.next.new.self _ c.in-Some.ensures.steps) walking, c.requires.i_lt_insns)

pub loop-x-preserved : goal.loop-x-preserved
loop-x-preserved c =
    let at = c.loop-x.invariant in
    settling_more at (walk_step c.loop-x.x-iterator c.next.new.self _ c.in-Some.ensures.steps)
    (c.settled_in.ensures c.if-not-settled_in.false)
