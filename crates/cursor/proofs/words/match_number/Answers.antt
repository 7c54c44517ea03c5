-- `cursor::words::match_number` meets its contract. Assumes nothing.
use mathlib.Core.Path.{refl}
use Rattle.std.proofs.Common.{rules}
use Rattle.lexer.proofs.Tried.{failed}
use Rattle.cursor.proofs.Wording.{seen, number_yes, number_not, number_none}
use Rattle.cursor.proofs.words.match_number.Goals as goal

pub returns-in_err-x : goal.returns-in_err-x
returns-in_err-x c = rw (failed _ c.from_residual.ensures.1) (λ d e. number_none (seen c.in_err-x.ensures e) refl)

pub returns-in-Number : goal.returns-in-Number
returns-in-Number c = λ d e. number_yes (seen c.in_ok-x.ensures e) refl c.in-Number.is

pub returns : goal.returns
returns c = λ d e. number_not (seen c.in_ok-x.ensures e) refl (search rules)
