-- `decode::go_on` meets its contract. Assumes nothing.
use Rattle.decode.proofs.Turns.{totals_in, calls_few, told_alone}
use Rattle.decode.proofs.go_on.Goals as goal

pub block-requires : goal.block-requires
block-requires c = (c.requires.0, (totals_in c.requires.2.1).blocks)

pub kind-requires : goal.kind-requires
kind-requires c = (c.requires.0, (totals_in c.requires.2.1).instructions, rw c.in-Kind.is at c.requires.1)

pub user-requires : goal.user-requires
user-requires c = (c.requires.0, (totals_in c.requires.2.1).instructions)

pub caller-requires : goal.caller-requires
caller-requires c = let w = totals_in c.requires.2.1 in (c.requires.0, w.functions, w.instructions, calls_few c.requires.2.1)

pub returns-in-Totals : goal.returns-in-Totals
returns-in-Totals c = λ x h. told_alone c.in-Totals.is x
