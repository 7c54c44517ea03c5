-- `sends::passing::count_params` meets its contract. Assumes nothing.
use mathlib.Core.Logic.{inl}
use Rattle.chains.proofs.Remaining.{left_fits}
use Rattle.sends.proofs.passing.count_params.Goals as goal

pub count-requires-clause-fits : goal.count-requires-clause-fits
count-requires-clause-fits c = inl (left_fits c.new.result)
