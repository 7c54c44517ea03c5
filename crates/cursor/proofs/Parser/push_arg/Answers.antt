-- `cursor::Parser::push_arg` meets its contract. Assumes nothing.
use mathlib.Core.Path.{refl}
use Rattle.cursor.specs.Parsers.{cursor_of}
use Rattle.cursor.proofs.Parser.push_arg.Goals as goal

pub returns-clause-stacks : goal.returns-clause-stacks
returns-clause-stacks c = c.push_arg-self.ensures (cursor_of c.args.self.now) refl
