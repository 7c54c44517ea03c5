-- `cursor::Parser::send` meets its contract. Assumes nothing.
use mathlib.Core.Path.{refl}
use Rattle.cursor.specs.Parsers.{cursor_of}
use Rattle.cursor.proofs.Kept.{passed}
use Rattle.cursor.proofs.Parser.send.Goals as goal

pub returns-clause-did : goal.returns-clause-did
returns-clause-did c = λ E.
    let p = c.args.self.now in
    let k = c.send.ensures.kept in
    passed (record { script = refl; limits = k.limits; words_loan = k.loan; scratch_loan = refl; words_room = k.room; scratch_room = refl }) refl
    ((rw c.waiting-args.ensures at c.send.ensures.did) E p.scratch.now (cursor_of p) refl refl c.requires.reading)
