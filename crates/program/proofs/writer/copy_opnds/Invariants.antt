-- What the loop of `program::writer::copy_opnds` keeps.
use Rattle.std.proofs.Common.{length, ◌/◌}
use Rattle.program.proofs.Areas.{Copying}
use Rattle.program.proofs.writer.copy_opnds.Given as goal

abbrev pub invariant-loop-i : goal.invariant-loop-i
invariant-loop-i l = Copying l.args (length l.args / 2) l.at l.initial.words l.words l.i
