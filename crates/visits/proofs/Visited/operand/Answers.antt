-- `visits::Visited::operand` meets its contract. Assumes nothing.
use Rattle.visits.proofs.Given.{operand_none}
use Rattle.visits.proofs.Visited.operand.Goals as goal

pub returns : goal.returns
returns c = operand_none c.args.self.now.code.now.program.words.now c.args.self.now.row c.args.j c.if-j-self.false
