-- `phis::join_rows` meets its contract. Assumes nothing.
use Rattle.phis.proofs.Laws.{join_aside, join-noted, join-stop, join_more, join-done}
use Rattle.std.proofs.lemmas.Result.{err_from_is_err_and}
use mathlib.Core.Path.{◌∙◌}
use Rattle.phis.proofs.join_rows.Goals as goal

pub next_join-requires-clause-aside : goal.next_join-requires-clause-aside
next_join-requires-clause-aside c = join_aside c.loop-x.invariant.0

pub next_join-requires-clause-notes_both : goal.next_join-requires-clause-notes_both
next_join-requires-clause-notes_both c = join-noted c.loop-x.invariant.0

pub returns-in_err-n-clause-did : goal.returns-in_err-n-clause-did
returns-in_err-n-clause-did c =
    let p = err_from_is_err_and c.from_residual.result c.from_residual.ensures.1 in
    rw (p.1, p.2) (join-stop c.loop-x.invariant.0 c.in-Some.ensures c.loop-x.invariant.1.limits _ _ _ c.in_err-n.ensures.did)

pub loop-x-preserved : goal.loop-x-preserved
loop-x-preserved c = (
  join_more c.loop-x.invariant.0 c.in-Some.ensures c.loop-x.invariant.1.limits _ _ _ c.in_ok-n.ensures.did,
  record {
    limits = c.join_one.ensures.kept.limits ∙ c.loop-x.invariant.1.limits;
    loan = c.join_one.ensures.kept.loan ∙ c.loop-x.invariant.1.loan;
    room = c.join_one.ensures.kept.room ∙ c.loop-x.invariant.1.room;
  },
)

pub returns-clause-did : goal.returns-clause-did
returns-clause-did c = join-done c.loop-x.invariant.0 c.in_default.ensures
