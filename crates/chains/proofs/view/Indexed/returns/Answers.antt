-- `chains::view::Indexed::returns` meets its contract. Assumes nothing.
use mathlib.Core.List.{[]}
use Rattle.chains.proofs.view.Indexed.returns.Goals as goal

pub new-requires-clause-stands : goal.new-requires-clause-stands
new-requires-clause-stands c = rw c.index.ensures (_, c.args.self.now.index.returning [] c.args.f.0 c.requires)

pub returns : goal.returns
returns c = λ s. c.new.ensures _ (rw c.index.ensures (c.args.self.now.index.returning s c.args.f.0 c.requires))
