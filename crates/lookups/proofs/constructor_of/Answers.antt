-- `lookups::constructor_of` meets its contract. Assumes nothing.
use Rattle.lookups.proofs.Rows.{constructs_some}
use Rattle.lookups.proofs.constructor_of.Goals as goal

pub returns : goal.returns
returns c = constructs_some c.args.program.now.script.now c.args.program.now.words.now c.args.program.now.counts c.args.k.0 c.method.ensures.is c.method.ensures.here c.in_ok-f.was c.fun.ensures
