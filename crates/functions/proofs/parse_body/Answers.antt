-- `functions::parse_body` meets its contract. Assumes nothing.
use Rattle.lexer.proofs.Tried.{failed}
use Rattle.functions.proofs.Readers.{body_no, body_no2, body_no3, body_no4, body_yes}
use Rattle.functions.proofs.parse_body.Goals as goal

pub returns-in_err-open_body : goal.returns-in_err-open_body
returns-in_err-open_body c =
    rw (failed _ c.from_residual.ensures.1) (body_no c.args.p.now c.requires c.open_body.ensures c.in_err-open_body.was)

pub returns-in_err-v : goal.returns-in_err-v
returns-in_err-v c =
    rw (failed _ c.from_residual-in_err-v.ensures.1) (body_no2 c.args.p.now c.requires c.open_body.ensures c.in_ok-open_body.was _ c.parse_statements.ensures c.in_err-v.was)

pub returns-in_err-end_block : goal.returns-in_err-end_block
returns-in_err-end_block c =
    rw (failed _ c.from_residual-in_err-end_block.ensures.1) (body_no3 c.args.p.now c.requires c.open_body.ensures c.in_ok-open_body.was _
    c.parse_statements.ensures c.in_ok-v.was c.end_block.ensures c.in_err-end_block.was)

pub returns-in_err-expect : goal.returns-in_err-expect
returns-in_err-expect c =
    rw (failed _ c.from_residual-in_err-expect.ensures.1)
    (body_no4 c.args.p.now c.requires c.open_body.ensures c.in_ok-open_body.was _ c.parse_statements.ensures c.in_ok-v.was c.end_block.ensures c.in_ok-end_block.was
    c.expect.ensures c.in_err-expect.was)

pub returns : goal.returns
returns c =
    body_yes c.args.p.now c.requires c.open_body.ensures c.in_ok-open_body.was _ c.parse_statements.ensures c.in_ok-v.was c.end_block.ensures c.in_ok-end_block.was
    c.expect.ensures c.in_ok-expect.was
