-- `cursor::Parser::take_name` meets its contract. Assumes nothing.
use mathlib.Core.Path.{refl}
use Rattle.lexer.proofs.Tried.{failed}
use Rattle.cursor.specs.Parsers.{cursor_of}
use Rattle.cursor.proofs.Parser.take_name.Goals as goal

pub returns-in_err-n : goal.returns-in_err-n
returns-in_err-n c = λ l. rw (failed _ c.from_residual.ensures.1) (record { same = refl; idents = c.in_err-n.ensures _ (cursor_of c.args.self.now) l })

pub returns : goal.returns
returns c = λ l. record { same = refl; idents = c.in_ok-n.ensures _ (cursor_of c.args.self.now) l }
