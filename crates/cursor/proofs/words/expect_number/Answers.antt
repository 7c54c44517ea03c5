-- `cursor::words::expect_number` meets its contract. Assumes nothing.
use Rattle.lexer.proofs.Tried.{failed}
use Rattle.cursor.proofs.Wording.{literal-or, literal-none}
use Rattle.cursor.proofs.words.expect_number.Goals as goal

pub returns-in_err-match_number : goal.returns-in_err-match_number
returns-in_err-match_number c = rw (failed _ c.from_residual.ensures.1) (λ d e. literal-none (c.in_err-match_number.ensures d e))

pub returns : goal.returns
returns c = rw c.ok_or.ensures.value (λ d e. literal-or _ d (c.in_ok-match_number.ensures d e))
