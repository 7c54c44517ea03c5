-- What the loop of `parser::classes::parse_members` keeps.
use lib.ListN.{length}
use Prim.Native.Nat.{◌-◌}
use Rattle.rules.specs.Reading.{parse_class_member}
use Rattle.parser.proofs.classes.Readers.{Stands}
use Rattle.parser.proofs.classes.parse_members.Given as goal

abbrev pub invariant-loop : goal.invariant-loop
invariant-loop l = Stands (λ L s. parse_class_member L s l.k.0) l.initial.p l.p

abbrev pub decreases-loop : goal.decreases-loop
decreases-loop l = length l.initial.p.script.now - l.p.at
