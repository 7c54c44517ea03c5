-- `phis::join_arms` meets its contract. Assumes nothing.
use Rattle.phis.proofs.Laws.{arms_aside, arms-done}
use Rattle.variables.proofs.Laws.{zeros-blank}
use Rattle.variables.specs.Layout.{bindings_most}
use Rattle.phis.proofs.join_arms.Goals as goal

-- Stays: three calls rest on the same facts; tried with the law named on the function, and the check didn't find it.

pub join_rows-requires-clause-aside : goal.join_rows-requires-clause-aside
join_rows-requires-clause-aside c = arms_aside c.requires.arms c.set_aside-rn.ensures c.requires.lies

pub returns-then-left-rn-le-FEW-clause-did : goal.returns-then-left-rn-le-FEW-clause-did
returns-then-left-rn-le-FEW-clause-did c = arms-done c.requires.arms c.set_aside-rn.ensures c.join_rows.ensures.did

pub note_rows-requires-clause-aside : goal.note_rows-requires-clause-aside
note_rows-requires-clause-aside c = arms_aside c.requires.arms c.set_aside-rn.ensures c.requires.lies

pub note_rows-requires-clause-variables_blank : goal.note_rows-requires-clause-variables_blank
note_rows-requires-clause-variables_blank c = zeros-blank bindings_most

pub join_rows-requires-2-clause-aside : goal.join_rows-requires-2-clause-aside
join_rows-requires-2-clause-aside c = arms_aside c.requires.arms c.set_aside-rn.ensures c.requires.lies

pub returns-clause-did : goal.returns-clause-did
returns-clause-did c = arms-done c.requires.arms c.set_aside-rn.ensures c.join_rows-2.ensures.did
