-- `cursor::Parser::name_value` meets its contract. Assumes nothing.
use mathlib.Core.Path.{refl}
use Rattle.cursor.specs.Parsers.{cursor_of}
use Rattle.cursor.proofs.Kept.{kept_none}
use Rattle.cursor.proofs.Parser.name_value.Goals as goal

pub returns : goal.returns
returns c =
    let e = c.program_so_far.ensures in
    record {
      kept = kept_none _;
      did = (rw (e.script, e.words, e.counts) at c.name_value.ensures) (cursor_of c.args.self.now) refl refl refl c.requires;
    }
