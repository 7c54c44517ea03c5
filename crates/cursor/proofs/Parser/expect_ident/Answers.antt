-- `cursor::Parser::expect_ident` meets its contract. Assumes nothing.
use mathlib.Core.Path.{refl}
use Rattle.lexer.proofs.Tried.{failed}
use Rattle.cursor.specs.Parsers.{cursor_of}
use Rattle.cursor.proofs.Parser.expect_ident.Goals as goal

pub returns-in_err-n : goal.returns-in_err-n
returns-in_err-n c = rw (failed _ c.from_residual.ensures.1) (record { same = refl; idents = c.in_err-n.ensures (cursor_of c.args.self.now) refl })

pub returns : goal.returns
returns c = record { same = refl; idents = c.in_ok-n.ensures (cursor_of c.args.self.now) refl }
