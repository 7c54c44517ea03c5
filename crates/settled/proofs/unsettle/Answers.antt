-- `settled::unsettle` meets its contract. Assumes nothing.
use mathlib.Core.Path.{ap, ◌∙◌}
use native.Mathlib.Omega.{arith}
use Rattle.settled.specs.Reads.{whole}
use Rattle.settled.proofs.Stamps.{unsettled_start, unsettled_keep, unsettled_put, whole_long, whole_set, whole_touched}
use Rattle.settled.proofs.unsettle.Goals as goal
use Rattle.settled.proofs.unsettle.Goals.{then-touched, else-touched}

pub loop-j-init : goal.loop-j-init
loop-j-init c = unsettled_start

pub loop-j-preserved : goal.loop-j-preserved
loop-j-preserved c =
    let s = c.args.state.now in
    let T = whole_touched s c.loop-j.stamps (rw (c.tables.ensures.0, c.tables.ensures.1) at c.touched.ensures) in
    elim c.if-touched.branch [
      | then-touched w ↦
          unsettled_put c.loop-j.invariant (whole_long s c.args.stamps.now c.requires.stamps_len) (omega (arith, s.ready.held.insns, c.loop-j-test.true)) T w.if-touched.true
          (ap (whole s) w.stamps-is ∙ whole_set s c.loop-j.stamps c.loop-j.j 0)
      | else-touched w ↦ unsettled_keep c.loop-j.invariant T w.if-touched.false (ap (whole s) w.stamps-is)
    ]
