-- `chains::view::Indexed::code` meets its contract. Assumes nothing.
use mathlib.Core.List.{[]}
use native.Mathlib.Omega.{arith}
use Rattle.rules.specs.Program.{code}
use Rattle.program.specs.View.{program_view}
use Rattle.chains.proofs.view.Indexed.code.Goals as goal

pub new-requires-clause-stands : goal.new-requires-clause-stands
new-requires-clause-stands c = (
  code (program_view [] c.args.self.now.program.words.now c.args.self.now.program.counts) c.args.b.0,
  rw c.index.ensures (c.args.self.now.index.codes [] c.args.b.0 (omega (arith, c.requires, c.args.self.now.program.ready.blocks))),
)
