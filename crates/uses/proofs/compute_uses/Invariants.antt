-- What the loops of `uses::compute_uses` keep.
use Rattle.uses.proofs.Laying.{Laying, Copying}
use Prim.Native.Nat.{◌-◌}
use Rattle.memory.specs.Layout.{uses_most}
use Rattle.uses.proofs.compute_uses.Given as goal

abbrev pub invariant-loop-i : goal.invariant-loop-i
invariant-loop-i l = Copying l.program.words.now l.n l.starts l.users l.cells.words.now l.initial.u l.u l.j l.pos l.h

abbrev pub decreases-loop-i : goal.decreases-loop-i
decreases-loop-i l = uses_most - l.h

abbrev pub invariant-loop-j : goal.invariant-loop-j
invariant-loop-j l = Laying l.program.words.now l.n l.starts l.users l.initial.u l.u l.pos l.j
