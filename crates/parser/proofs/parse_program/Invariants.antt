-- What the loop of `parser::parse_program` keeps.
use lib.ListN.{length}
use Prim.Native.Nat.{◌-◌}
use Rattle.rules.specs.Reading.{parse_top}
use Rattle.parser.proofs.classes.Readers.{Stands}
use Rattle.parser.proofs.parse_program.Given as goal

abbrev pub invariant-loop : goal.invariant-loop
invariant-loop l = Stands (λ L s. parse_top L s) l.initial.p l.p

abbrev pub decreases-loop : goal.decreases-loop
decreases-loop l = length l.initial.p.script.now - l.p.at
