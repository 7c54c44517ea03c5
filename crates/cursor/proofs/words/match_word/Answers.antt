-- `cursor::words::match_word` meets its contract. Assumes nothing.
use mathlib.Core.Path.{◌≡◌, refl}
use Rattle.std.proofs.Common.{rules}
use Rattle.lexer.proofs.Tried.{failed}
use Rattle.cursor.proofs.Wording.{seen, match_yes, match_not, match_none}
use Rattle.cursor.proofs.words.match_word.Goals as goal

pub returns-in_err-x : goal.returns-in_err-x
returns-in_err-x c = rw (failed _ c.from_residual.ensures.1) (λ d e. match_none (seen c.in_err-x.ensures e) refl)

pub returns-then-eq : goal.returns-then-eq
returns-then-eq c = λ d e. let q : c.in_ok-x.x.token ≡ c.args.k = search rules in match_yes (seen c.in_ok-x.ensures e) c.requires refl q

pub returns : goal.returns
returns c = λ d e. match_not (seen c.in_ok-x.ensures e) refl (search rules)
