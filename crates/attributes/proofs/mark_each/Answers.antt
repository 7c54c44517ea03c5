-- `attributes::mark_each` meets its contract. Assumes nothing.
use Rattle.attributes.proofs.Marks.{marking_more, marking_done}
use Rattle.ids.proofs.Members.{walk_step}
use Rattle.machine.proofs.receivers.Walk.{class-below}
use Rattle.attributes.proofs.mark_each.Goals as goal

pub add_read-requires : goal.add_read-requires
add_read-requires c = record {
  c_lt_classes = rw c.loop-c.invariant.going.along.lent.sizes (
    class-below (walk_step c.loop-c.c-iterator c.next.new.self _ c.in-Some.ensures.steps) c.loop-c.invariant.walking,
    c.requires.i_lt_insns,
  );
}

pub loop-c-preserved : goal.loop-c-preserved
loop-c-preserved c = marking_more c.loop-c.invariant (walk_step c.loop-c.c-iterator c.next.new.self _ c.in-Some.ensures.steps) c.add_read.ensures

pub returns : goal.returns
returns c = marking_done c.loop-c.invariant c.in-None.ensures.steps.0
