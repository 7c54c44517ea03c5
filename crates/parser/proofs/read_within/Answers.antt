-- `parser::read_within` meets its contract. Assumes nothing.
use Rattle.parser.proofs.Tops.{read-long}
use Rattle.parser.proofs.read_within.Goals as goal

pub returns-then-limits-script : goal.returns-then-limits-script
returns-then-limits-script c = read-long c.args.limits _ _ c.if-limits-script.true
