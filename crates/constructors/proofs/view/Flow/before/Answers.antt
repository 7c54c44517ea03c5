-- `constructors::view::Flow::before` meets its contract. Assumes nothing.
use native.Mathlib.Omega.{arith}
use Rattle.constructors.proofs.Meeting.{meet_start, meet_skip, meet_more, meet_done}
use Rattle.constructors.proofs.view.Flow.before.Goals as goal

pub loop-q-init : goal.loop-q-init
loop-q-init c = (meet_start _ _ _ _ _, c.requires.i_le_done)

pub loop-q-preserved-then-leads : goal.loop-q-preserved-then-leads
loop-q-preserved-then-leads c =
    (meet_more c.loop-q.invariant.0 (omega arith) c.end_of.ensures c.leads.ensures c.if-leads.true c.unwrap_or.ensures, omega arith)

pub loop-q-preserved : goal.loop-q-preserved
loop-q-preserved c = (meet_skip c.loop-q.invariant.0 (omega arith) c.end_of.ensures c.leads.ensures c.if-leads.false, omega arith)

pub returns : goal.returns
returns c = meet_done c.loop-q.invariant.0 (omega (arith, c.loop-q.invariant.1)) c.unwrap_or-2.ensures
