-- `cursor::words::expect_ident` meets its contract. Assumes nothing.
use mathlib.Core.Path.{refl}
use Rattle.lexer.proofs.Tried.{failed}
use Rattle.cursor.proofs.Wording.{seen, ident_none}
use Rattle.cursor.proofs.words.expect_ident.Goals as goal

pub returns-in_err-x : goal.returns-in_err-x
returns-in_err-x c = rw (failed _ c.from_residual.ensures.1) (λ d e. ident_none (seen c.in_err-x.ensures e) refl)
