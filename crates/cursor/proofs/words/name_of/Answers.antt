-- `cursor::words::name_of` meets its contract. Assumes nothing.
use mathlib.Core.Path.{◌≡◌, refl}
use Rattle.std.proofs.Common.{rules}
use Rattle.lexer.specs.declared.Token.TheVariants as T
use Rattle.cursor.proofs.Wording.{ident_found, ident_other}
use Rattle.cursor.proofs.words.name_of.Goals as goal

pub returns-then-eq : goal.returns-then-eq
returns-then-eq c = λ s d l. let e : c.args.x.token ≡ T.Name = search rules in ident_found l refl e

pub returns : goal.returns
returns c = λ s d l. ident_other l refl (search rules)
