-- `cursor::Parser::get_ivar` meets its contract. Assumes nothing.
use Rattle.cursor.proofs.Leaves.{get_yes, get_no}
use Rattle.lexer.proofs.Tried.{failed, there, missing}
use Rattle.cursor.proofs.Parser.get_ivar.Goals as goal

pub returns-in_err-me-clause-adds : goal.returns-in_err-me-clause-adds
returns-in_err-me-clause-adds c =
    rw (failed _ c.from_residual.ensures.1, (missing c.args.self.now.receiver c.in_err-me.ensures.value).1)
    (get_no _ _ _ c.args.self.now.program.limits c.args.n (missing _ c.in_err-me.ensures.value).0)

pub returns-clause-adds : goal.returns-clause-adds
returns-clause-adds c = get_yes _ _ _ c.args.self.now.program.limits c.args.n _ c.in_ok-me.me (there _ _ c.in_ok-me.ensures.value) c.push.ensures.adds
