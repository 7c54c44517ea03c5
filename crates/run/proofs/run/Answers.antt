-- The run begins with no stamp of its epoch, and ends where nothing waits or a step was refused.
use Rattle.std.proofs.Common.{rules, ◌≡◌, Err}
use Rattle.run.proofs.Running.{turning_start, turning_steady, turning_small, turning_on, turning_less, turning_no, turning_over}
use Rattle.run.proofs.run.Goals as goal

pub loop-state-init : goal.loop-state-init
loop-state-init c = turning_start c.requires.analysed c.requires.stamps_fresh c.requires.reaching

pub step-requires-clause-steady : goal.step-requires-clause-steady
step-requires-clause-steady c = turning_steady c.loop-state.invariant

pub step-requires-clause-len_nonzero : goal.step-requires-clause-len_nonzero
step-requires-clause-len_nonzero c = turning_small c.loop-state.invariant c.at_rest.ensures c.loop-state-test.true

pub returns-in_err-epoch : goal.returns-in_err-epoch
returns-in_err-epoch c =
    let e : c.from_residual.result ≡ Err c.in_err-epoch.field-0.0 = search rules in
    rw e (turning_no c.loop-state.invariant c.at_rest.ensures c.loop-state-test.true c.step.ensures c.in_err-epoch.was)

pub loop-state-smaller : goal.loop-state-smaller
loop-state-smaller c = turning_less c.loop-state.invariant c.at_rest.ensures c.loop-state-test.true c.step.ensures c.in_ok-epoch.was

pub loop-state-preserved : goal.loop-state-preserved
loop-state-preserved c = turning_on c.loop-state.invariant c.at_rest.ensures c.loop-state-test.true c.step.ensures c.in_ok-epoch.was

pub returns : goal.returns
returns c = turning_over c.loop-state.invariant c.at_rest.ensures c.loop-state-test.false
