-- `parser::classes::parse_attr` meets its contract. Assumes nothing.
use Rattle.lexer.proofs.Tried.{failed}
use Rattle.parser.proofs.classes.Readers.{attr_no, attr_no2, attr_end}
use Rattle.parser.proofs.classes.parse_attr.Goals as goal

pub returns-in_err-expect : goal.returns-in_err-expect
returns-in_err-expect c =
    rw (failed _ c.from_residual.ensures.1) (attr_no c.args.p.now c.args.k c.requires.rests c.expect.ensures c.in_err-expect.was)

pub returns-in_err-n : goal.returns-in_err-n
returns-in_err-n c =
    rw (failed _ c.from_residual-in_err-n.ensures.1) (attr_no2 c.args.p.now c.args.k c.requires.rests c.expect.ensures c.in_ok-expect.was c.expect_ident.ensures c.in_err-n.was)

pub returns : goal.returns
returns c =
    attr_end c.args.p.now c.args.k c.requires.rests c.expect.ensures c.in_ok-expect.was c.expect_ident.ensures c.in_ok-n.was c.push_ivar.ensures.kept c.push_ivar.ensures.counts _
    c.push_ivar.ensures.declares
