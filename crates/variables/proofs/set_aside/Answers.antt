-- `variables::set_aside` meets its contract. Assumes nothing.
use Rattle.variables.proofs.Laws.{leave-start, leave_sorted, leave-more}
use borrow.Author.Rules.{rules}
use Rattle.variables.proofs.set_aside.Goals as goal

pub loop-i-init : goal.loop-i-init
loop-i-init c = search leave-start

pub insert-n-requires-clause-lies : goal.insert-n-requires-clause-lies
insert-n-requires-clause-lies c = record { inside = search rules; sorted = search leave_sorted }

pub loop-i-preserved : goal.loop-i-preserved
loop-i-preserved c = search leave-more
