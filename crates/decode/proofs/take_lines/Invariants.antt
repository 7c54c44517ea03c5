-- What the loop of `decode::take_lines` keeps, and its measure.
use Rattle.std.proofs.Common.{length, ◌-◌}
use Rattle.decode.proofs.Turns.{Going}
use Rattle.decode.proofs.take_lines.Given as goal

abbrev pub invariant-loop-line : goal.invariant-loop-line
invariant-loop-line l = Going l.fn.decoder l.fn.answer l.text l.decoder l.end l.answer

abbrev pub decreases-loop-line : goal.decreases-loop-line
decreases-loop-line l = length l.text - l.end
