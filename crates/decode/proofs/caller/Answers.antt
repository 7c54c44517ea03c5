-- `decode::caller` meets its contract. Assumes nothing.
use Rattle.std.proofs.Common.{rules}
use Rattle.decode.proofs.Taking.{caller_taken, caller_missed, later_true, later_back}
use Rattle.decode.proofs.caller.Goals as goal

pub returns-then-partial : goal.returns-then-partial
returns-then-partial c = λ x h. caller_missed h c.args.f c.args.i (search rules)

pub returns-then-partial-function : goal.returns-then-partial-function
returns-then-partial-function c = λ x h. caller_missed h c.args.f c.args.i (search rules)

pub returns-then-caller-partial : goal.returns-then-caller-partial
returns-then-caller-partial c = λ x h. caller_missed h c.args.f c.args.i (search (rules, later_back))

pub returns : goal.returns
returns c = λ x h. caller_taken h c.args.f c.args.i c.index-function.ensures c.index-caller.ensures (search rules) (search rules)
    (search (rules, later_true)) (search rules) (search rules) (search rules) (search rules)
