-- What the loop of `frames::Sort::from_byte` keeps.
use Rattle.std.proofs.Common.{◌≡◌, drop}
use Rattle.std.specs.Prelude.{eqb, find, map}
use Rattle.rules.specs.Sorts.{sort_byte}
use Rattle.frames.specs.Table.{sort_named, sort_from}
use Rattle.frames.proofs.Sort.from_byte.Given as goal

abbrev pub invariant-loop-sort : goal.invariant-loop-sort
invariant-loop-sort l = sort_from l.byte ≡ find (λ s. eqb (sort_byte s) l.byte) (map sort_named (drop l.sort-index l.sort-items))
