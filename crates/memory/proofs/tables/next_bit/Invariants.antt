-- What the loop of `memory::tables::next_bit` keeps.
use Prim.Native.Nat.{◌-◌}
use Rattle.memory.specs.tables.Bits.{bit_at}
use Rattle.memory.proofs.tables.Walk.{Walked}
use Rattle.memory.proofs.tables.next_bit.Given as goal

abbrev pub invariant-loop-i : goal.invariant-loop-i
invariant-loop-i l = Walked (bit_at l.words l.base) l.n l.from l.i

abbrev pub decreases-loop-i : goal.decreases-loop-i
decreases-loop-i l = l.n - l.i
