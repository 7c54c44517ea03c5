-- `cursor::Parser::assign` meets its contract. Assumes nothing.
use mathlib.Core.Path.{refl}
use Rattle.lexer.proofs.Tried.{failed}
use Rattle.cursor.specs.Parsers.{cursor_of}
use Rattle.cursor.proofs.Parser.assign.Goals as goal

pub returns-in_err-assign-clause-assigns : goal.returns-in_err-assign-clause-assigns
returns-in_err-assign-clause-assigns c =
    rw (failed _ c.from_residual.ensures.1) (c.in_err-assign.ensures (cursor_of c.args.self.now) refl)

pub returns-clause-assigns : goal.returns-clause-assigns
returns-clause-assigns c = c.in_ok-assign.ensures (cursor_of c.args.self.now) refl
