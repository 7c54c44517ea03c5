-- `frames::Frames::fill` meets its contract. Assumes nothing.
use Rattle.std.proofs.Common.{rules, ◌∙◌}
use Rattle.frames.proofs.Steps.{filling_more}
use Rattle.frames.proofs.Frames.fill.Goals as goal

pub loop-out-preserved : goal.loop-out-preserved
loop-out-preserved c =
    let k = c.loop-out.invariant in
    let s = c.in-Some.ensures.steps in
    (filling_more k.0 (rw k.1 at s.0) c.write-len.ensures (search rules), s.1 ∙ k.1)
