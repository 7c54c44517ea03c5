-- `cursor::Parser::read_attr` meets its contract. Assumes nothing.
use Rattle.cursor.proofs.Leaves.{read-yes, read_no}
use Rattle.cursor.proofs.Parser.read_attr.Goals as goal

pub returns-then-same_bytes-clause-adds : goal.returns-then-same_bytes-clause-adds
returns-then-same_bytes-clause-adds c =
    read_no _ _ _ _ c.args.self.now.program.limits c.args.v c.args.n _ (rw c.of.ensures at c.same_bytes.ensures) c.if-same_bytes.true

pub returns-clause-adds : goal.returns-clause-adds
returns-clause-adds c =
    read-yes _ _ _ _ c.args.self.now.program.limits c.args.v c.args.n _ (rw c.of.ensures at c.same_bytes.ensures) _ c.if-same_bytes.false
    c.push.ensures.adds
