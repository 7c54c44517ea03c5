-- `decode::block` meets its contract. Assumes nothing.
use Rattle.std.proofs.Common.{rules}
use Rattle.decode.proofs.Taking.{block_taken, block_missed}
use Rattle.decode.proofs.block.Goals as goal

pub returns-then-index-partial : goal.returns-then-index-partial
returns-then-index-partial c = λ x h. block_missed h c.args.b c.args.live (search rules)

pub returns : goal.returns
returns c = λ x h. block_taken h c.args.b c.args.live c.index-2.ensures (search rules) (search rules) (search rules)
