-- `cursor::words::expect` meets its contract. Assumes nothing.
use Rattle.lexer.proofs.Tried.{failed}
use Rattle.cursor.proofs.Wording.{expect_or, expect_none}
use Rattle.cursor.proofs.words.expect.Goals as goal

pub returns-in_err-match_token : goal.returns-in_err-match_token
returns-in_err-match_token c = rw (failed _ c.from_residual.ensures.1) (λ d e. expect_none (c.in_err-match_token.ensures d e))

pub returns : goal.returns
returns c = rw c.ok_or.ensures.value (λ d e. expect_or _ d (c.in_ok-match_token.ensures d e))
