-- `cursor::push_call` meets its contract. Assumes nothing.
use mathlib.Core.Path.{refl}
use Rattle.lexer.proofs.Tried.{failed}
use Rattle.cursor.proofs.Leaves.{call-done, call_stops}
use Rattle.cursor.proofs.push_call.Goals as goal

pub returns-in_err-i-clause-adds : goal.returns-in_err-i-clause-adds
returns-in_err-i-clause-adds c = λ s w d e f.
    rw (failed _ c.from_residual.ensures.1)
    (call_stops _ _ d c.args.draft.now.limits c.args.callee c.args.args.now c.push_call.new.self.counts _ (rw (← e, ← f) at c.in_err-i.ensures.did) _ refl s w)

pub returns-clause-adds : goal.returns-clause-adds
returns-clause-adds c = λ s w d e f.
    call-done _ _ d c.args.draft.now.limits c.args.callee c.args.args.now c.push_call.new.self.counts _ (rw (← e, ← f) at c.in_ok-i.ensures.did) _ refl s w
