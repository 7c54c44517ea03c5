-- `phis::phi` meets its contract. Assumes nothing.
use Rattle.phis.proofs.Laws.{phi-same, phi_added, phi-refused}
use borrow.Author.Rules.{rules}
use Rattle.std.proofs.lemmas.Result.{err_from_is_err_and}
use Rattle.phis.proofs.phi.Goals as goal

pub returns-then-eq-clause-did : goal.returns-then-eq-clause-did
returns-then-eq-clause-did c = phi-same _ _ _ _ _ _ c.args.draft.now.ready (search rules)

pub returns-in_err-i-clause-did : goal.returns-in_err-i-clause-did
returns-in_err-i-clause-did c =
    let p = err_from_is_err_and c.from_residual.result c.from_residual.ensures.1 in rw (p.1, p.2) (phi-refused _ _ _ _ _ _ _ _ (search rules) c.in_err-i.ensures.did)

pub returns-clause-did : goal.returns-clause-did
returns-clause-did c = phi_added _ _ _ _ _ _ _ _ (search rules) c.in_ok-i.ensures.did
