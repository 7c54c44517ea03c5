-- What the loop of `functions::params::parse_names` keeps.
use lib.ListN.{length}
use Prim.Native.Nat.{◌-◌}
use Rattle.functions.proofs.params.Heads.{NamesStand}
use Rattle.functions.proofs.params.parse_names.Given as goal

abbrev pub invariant-loop-n : goal.invariant-loop-n
invariant-loop-n l = NamesStand l.script l.initial.scratch l.fn.at l.scratch l.k l.next

abbrev pub decreases-loop-n : goal.decreases-loop-n
decreases-loop-n l = length l.script - l.next
