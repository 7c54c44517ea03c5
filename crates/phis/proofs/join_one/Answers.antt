-- `phis::join_one` meets its contract. Assumes nothing.
use Rattle.phis.proofs.Laws.{one_bound, one_refused}
use Rattle.std.proofs.lemmas.Result.{err_from_is_err_and}
use Rattle.phis.proofs.join_one.Goals as goal

pub returns-in_err-o-clause-did : goal.returns-in_err-o-clause-did
returns-in_err-o-clause-did c =
    let p = err_from_is_err_and c.from_residual.result c.from_residual.ensures.1 in rw (p.1, p.2) (one_refused _ _ _ _ _ _ _ c.load.ensures c.load-2.ensures c.in_err-o.ensures.did)

pub returns-clause-did : goal.returns-clause-did
returns-clause-did c = one_bound _ _ _ _ _ _ _ c.load.ensures c.load-2.ensures c.store.result c.in_ok-o.ensures.did c.store.ensures c.bind_again.ensures
