-- `visits::visit` meets its contract. Assumes nothing.
use mathlib.Core.Path.{◌≡◌}
use Rattle.std.specs.Prelude.{Err}
use borrow.Author.Rules.{rules}
use Rattle.state.proofs.Methods.{did_fits}
use Rattle.visits.proofs.Ways.{fits-tables}
use Rattle.visits.proofs.Ruling.{visit_stored, visit_refused}
use Rattle.visits.proofs.visit.Goals as goal

pub returns-in_err-k : goal.returns-in_err-k
returns-in_err-k c =
    let e : c.from_residual.result ≡ Err c.in_err-k.field-0.0 = search rules in
    rw e (visit_refused c.args.i.0 c.rule.ensures c.in_err-k.was)

pub returns : goal.returns
returns c = visit_stored c.args.i.0 c.rule.ensures c.in_ok-k.was (did_fits c.store.ensures fits-tables)
