-- `decode::user` meets its contract. Assumes nothing.
use Rattle.std.proofs.Common.{rules}
use Rattle.decode.proofs.Taking.{user_taken, user_missed, higher_true, higher_back}
use Rattle.decode.proofs.user.Goals as goal

pub returns-then-partial : goal.returns-then-partial
returns-then-partial c = λ x h. user_missed h c.args.i c.args.u (search rules)

pub returns-then-partial-row : goal.returns-then-partial-row
returns-then-partial-row c = λ x h. user_missed h c.args.i c.args.u (search rules)

pub returns-then-row-partial : goal.returns-then-row-partial
returns-then-row-partial c = λ x h. user_missed h c.args.i c.args.u (search (rules, higher_back))

pub returns : goal.returns
returns c = λ x h. user_taken h c.args.i c.args.u c.index-row.ensures c.index-user.ensures (search rules) (search rules) (search rules)
    (search (rules, higher_true)) (search rules) (search rules) (search rules) (c.starts.ensures x h)
