-- `cursor::Parser::match_token` meets its contract. Assumes nothing.
use mathlib.Core.Path.{refl}
use Rattle.lexer.proofs.Tried.{failed}
use Rattle.cursor.specs.Parsers.{cursor_of}
use Rattle.cursor.proofs.Parser.match_token.Goals as goal

pub returns-in_err-next : goal.returns-in_err-next
returns-in_err-next c =
    rw (failed _ c.from_residual.ensures.1) (record { same = refl; matches = c.in_err-next.ensures (cursor_of c.args.self.now) refl; stays = λ z. refl })

pub returns-in_default : goal.returns-in_default
returns-in_default c = record { same = refl; matches = rw c.in_default.is at (c.in_ok-next.ensures (cursor_of c.args.self.now) refl); stays = λ z. refl }

pub returns : goal.returns
returns c =
    record {
      same = refl;
      matches = rw c.in-Some.is at (c.in_ok-next.ensures (cursor_of c.args.self.now) refl);
      stays = λ z. cc;
    }
