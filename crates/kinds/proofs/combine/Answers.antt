-- `kinds::combine` meets its contract. Assumes nothing.
use Rattle.kinds.specs.Rules.{arith_of}
use Rattle.kinds.proofs.Steps.{told_or, number_arith}
use borrow.Author.Rules.{rules}
use Rattle.kinds.proofs.combine.Goals as goal

pub returns-in-Num-Num : goal.returns-in-Num-Num
unfolding arith_of
returns-in-Num-Num c = search (number_arith, told_or, rules)
