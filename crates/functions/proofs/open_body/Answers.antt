-- `functions::open_body` meets its contract. Assumes nothing.
use Rattle.lexer.proofs.Tried.{failed}
use Rattle.functions.proofs.Readers.{heads_no, heads_no2, heads_yes}
use Rattle.functions.proofs.open_body.Goals as goal

pub returns-in_err-push_self : goal.returns-in_err-push_self
returns-in_err-push_self c =
    rw (failed _ c.from_residual.ensures.1) (heads_no c.args.p.now c.requires c.push_self.ensures c.in_err-push_self.was)

pub returns-in_err-push_params : goal.returns-in_err-push_params
returns-in_err-push_params c =
    rw (failed _ c.from_residual-in_err-push_params.ensures.1) (heads_no2 c.args.p.now c.requires c.push_self.ensures c.in_ok-push_self.was c.push_params.ensures c.in_err-push_params.was)

pub returns : goal.returns
returns c = heads_yes c.args.p.now c.requires c.push_self.ensures c.in_ok-push_self.was c.push_params.ensures c.in_ok-push_params.was
