-- The run stands where the rules' run stands after as many steps, and each turn leaves fewer steps of the bound.
use Rattle.run.proofs.Running.{Turning, left}
use Rattle.run.proofs.run.Given as goal

abbrev pub invariant-loop-state : goal.invariant-loop-state
invariant-loop-state l = Turning l.tables l.initial.state l.state l.stamps l.epoch

abbrev pub decreases-loop-state : goal.decreases-loop-state
decreases-loop-state l = left l.tables l.state
