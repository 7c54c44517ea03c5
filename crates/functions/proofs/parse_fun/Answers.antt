-- `functions::parse_fun` meets its contract. Assumes nothing.
use Rattle.lexer.proofs.Tried.{failed}
use Rattle.functions.proofs.Readers.{fun_no, fun_no2, fun_no3, fun_no4, fun_no5, fun_no6, fun_yes}
use Rattle.functions.proofs.parse_fun.Goals as goal

pub returns-in_err-n : goal.returns-in_err-n
returns-in_err-n c =
    rw (failed _ c.from_residual.ensures.1) (fun_no _ c.requires c.expect_ident.ensures c.in_err-n.was)

pub returns-in_err-f : goal.returns-in_err-f
returns-in_err-f c =
    rw (failed _ c.from_residual-in_err-f.ensures.1) (fun_no2 _ c.requires c.expect_ident.ensures c.in_ok-n.was c.new_fun.ensures c.in_err-f.was)

pub returns-in_err-expect : goal.returns-in_err-expect
returns-in_err-expect c =
    rw (failed _ c.from_residual-in_err-expect.ensures.1) (fun_no3 _ c.requires c.expect_ident.ensures c.in_ok-n.was c.new_fun.ensures c.in_ok-f.was c.expect.ensures c.in_err-expect.was)

pub returns-in_err-parse_params : goal.returns-in_err-parse_params
returns-in_err-parse_params c =
    rw (failed _ c.from_residual-in_err-parse_params.ensures.1)
    (fun_no4 _ c.requires c.expect_ident.ensures c.in_ok-n.was c.new_fun.ensures c.in_ok-f.was c.expect.ensures c.in_ok-expect.was
    c.parse_params.ensures c.in_err-parse_params.was)

pub returns-in_err-expect-2 : goal.returns-in_err-expect-2
returns-in_err-expect-2 c =
    rw (failed _ c.from_residual-in_err-expect-2.ensures.1)
    (fun_no5 _ c.requires c.expect_ident.ensures c.in_ok-n.was c.new_fun.ensures c.in_ok-f.was c.expect.ensures c.in_ok-expect.was
    c.parse_params.ensures c.in_ok-parse_params.was c.expect-2.ensures c.in_err-expect-2.was)

pub returns-in_err-parse_body : goal.returns-in_err-parse_body
returns-in_err-parse_body c =
    rw (failed _ c.from_residual-in_err-parse_body.ensures.1)
    (fun_no6 _ c.requires c.expect_ident.ensures c.in_ok-n.was c.new_fun.ensures c.in_ok-f.was c.expect.ensures c.in_ok-expect.was
    c.parse_params.ensures c.in_ok-parse_params.was c.expect-2.ensures c.in_ok-expect-2.was _ c.parse_body.ensures c.in_err-parse_body.was)

pub returns : goal.returns
returns c =
    fun_yes _ c.requires c.expect_ident.ensures c.in_ok-n.was c.new_fun.ensures c.in_ok-f.was c.expect.ensures c.in_ok-expect.was
    c.parse_params.ensures c.in_ok-parse_params.was c.expect-2.ensures c.in_ok-expect-2.was _ c.parse_body.ensures c.in_ok-parse_body.was
