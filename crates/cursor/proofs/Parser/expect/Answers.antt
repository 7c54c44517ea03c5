-- `cursor::Parser::expect` meets its contract. Assumes nothing.
use mathlib.Core.Path.{refl}
use Rattle.lexer.proofs.Tried.{failed}
use Rattle.cursor.specs.Parsers.{cursor_of}
use Rattle.cursor.proofs.Parser.expect.Goals as goal

pub returns-in_err-self : goal.returns-in_err-self
returns-in_err-self c = rw (failed _ c.from_residual.ensures.1) (record { same = refl; expects = c.in_err-self.ensures (cursor_of c.args.self.now) refl })

pub returns : goal.returns
returns c = record { same = refl; expects = c.in_ok-self.ensures (cursor_of c.args.self.now) refl }
