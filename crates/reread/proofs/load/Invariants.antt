-- What the loop of `reread::load` keeps. Assumes nothing.
use Rattle.reread.proofs.Laws.{Feeding}
use Rattle.reread.proofs.load.Given as goal

abbrev pub invariant-loop : goal.invariant-loop
invariant-loop g l = Feeding (g.R.Read.remaining l.fn.from) (g.R.Read.remaining l.from) l.decoder l.answer l.buffer l.kept
