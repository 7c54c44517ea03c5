-- `cursor::words::match_sign` meets its contract. Assumes nothing.
use mathlib.Core.Path.{refl, ap}
use Rattle.std.specs.Prelude.{Ok}
use Rattle.lexer.proofs.Tried.{failed}
use Rattle.cursor.proofs.Wording.{sign-yes, sign-not, sign-other, sign-none}
use Rattle.cursor.proofs.words.match_sign.Goals as goal

pub returns-in_err-b : goal.returns-in_err-b
returns-in_err-b c = rw (failed _ c.from_residual.ensures.1) (sign-none c.in_err-b.ensures refl)

pub returns-in_default : goal.returns-in_default
returns-in_default c = sign-other c.in_ok-b.ensures (ap Ok c.in_default.is)

pub returns-then-b-k : goal.returns-then-b-k
returns-then-b-k c = sign-yes c.in_ok-b.ensures (ap Ok c.in-Some.is) c.if-b-k.true

pub returns : goal.returns
returns c = sign-not c.in_ok-b.ensures (ap Ok c.in-Some.is) c.if-b-k.false
