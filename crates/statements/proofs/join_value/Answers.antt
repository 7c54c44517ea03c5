-- `statements::join_value` meets its contract. Assumes nothing.
use Rattle.lexer.proofs.Tried.{failed}
use Rattle.cursor.proofs.Wording.{spelt_end}
use Rattle.expressions.proofs.Readers.{done_no, done_then, expected}
use Rattle.statements.proofs.Readers.{as_value, phis_did}
use Rattle.statements.proofs.join_value.Goals as goal

pub returns-in_err-expect : goal.returns-in_err-expect
returns-in_err-expect c =
    rw (failed _ c.from_residual.ensures.1) (as_value _ _ _ _ (done_no _ _ (expected _ spelt_end c.expect.ensures c.requires) c.in_err-expect.was))

pub returns : goal.returns
returns c =
    as_value _ _ _ _ (done_then _ _ (expected _ spelt_end c.expect.ensures c.requires) c.in_ok-expect.was
    (phis_did _ _ _ _ c.expect.new.self c.phi.new.draft c.phi.result c.phi.ensures.kept c.phi.ensures.did))
