-- `decode::take_lines` meets its contract. Assumes nothing.
use Rattle.std.proofs.Common.{arith, rules}
use Rattle.decode.proofs.Turns.{frame_legal, frame_on, going_more, going_bad}
use Rattle.decode.proofs.take_lines.Goals as goal

pub take-decoder-requires : goal.take-decoder-requires
take-decoder-requires c = (c.loop-line.invariant.underway, frame_legal _ _ _ c.in-Some.ensures.0)

pub loop-line-smaller : goal.loop-line-smaller
loop-line-smaller c =
    let l = frame_on _ _ _ _ c.loop-line.invariant.in_range c.in-Some.ensures.1 c.in-Some.ensures.0 in
    omega (arith, l, c.in-Some.ensures.1)

pub loop-line-preserved : goal.loop-line-preserved
loop-line-preserved c = going_more c.loop-line.invariant c.in-Some.ensures.0 c.in-Some.ensures.1 (search rules) c.take-decoder.ensures

pub returns-then-text-end-ge-LINE_MOST : goal.returns-then-text-end-ge-LINE_MOST
returns-then-text-end-ge-LINE_MOST c = going_bad c.loop-line.invariant (search rules) c.if-text-end-ge-LINE_MOST.true
