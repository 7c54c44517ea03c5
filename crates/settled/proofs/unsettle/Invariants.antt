-- What the loop of `settled::unsettle` keeps.
use Rattle.kinds.specs.InWords.{words_of}
use Rattle.settled.specs.Reads.{whole, Unsettled}
use Rattle.settled.proofs.unsettle.Given as goal

abbrev pub invariant-loop-j : goal.invariant-loop-j
invariant-loop-j l = Unsettled l.words l.state.sizes (words_of l.k) l.j (whole l.state l.initial.stamps) (whole l.state l.stamps)
