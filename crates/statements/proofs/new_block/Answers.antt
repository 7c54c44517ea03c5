-- `statements::new_block` meets its contract. Assumes nothing.
use Rattle.statements.proofs.Standing.{opens_block}
use Rattle.statements.proofs.new_block.Goals as goal

pub returns : goal.returns
returns c = opens_block c.args.p.now _ c.next_block.ensures.kept _ c.next_block.ensures.did
