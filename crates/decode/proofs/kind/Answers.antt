-- `decode::kind` meets its contract. Assumes nothing.
use Rattle.std.proofs.Common.{rules}
use Rattle.decode.proofs.Taking.{kind_taken, kind_missed}
use Rattle.decode.proofs.kind.Goals as goal

pub returns-then-partial : goal.returns-then-partial
returns-then-partial c = λ x h. kind_missed h c.args.i c.args.tag c.args.payload c.requires.2 (search rules)

pub returns-then-partial-payload : goal.returns-then-partial-payload
returns-then-partial-payload c = λ x h. kind_missed h c.args.i c.args.tag c.args.payload c.requires.2 (search rules)

pub returns : goal.returns
returns c = λ x h. kind_taken h c.args.i c.args.tag c.args.payload c.requires.2 c.index-at.ensures (search rules) (search rules) (search rules) (search rules)
