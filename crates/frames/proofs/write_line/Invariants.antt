-- What the loop of `frames::write_line` keeps.
use Rattle.frames.specs.Table.{sort_named}
use Rattle.frames.proofs.Laws.{Lining}
use Rattle.frames.proofs.write_line.Given as goal

abbrev pub invariant-loop-k : goal.invariant-loop-k
invariant-loop-k l = Lining (sort_named l.fn.sort) l.numbers l.fn.out l.out l.k l.at
