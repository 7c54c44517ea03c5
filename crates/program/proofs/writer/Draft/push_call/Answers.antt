-- `program::writer::Draft::push_call` meets its contract. Assumes nothing.
use native.Mathlib.Nat.{zero-add}
use Rattle.program.proofs.Calling.{call_static_lem, call_dynamic}
use Rattle.program.proofs.writer.Draft.push_call.Goals as goal

pub returns-in-Static-clause-did : goal.returns-in-Static-clause-did
returns-in-Static-clause-did c = call_static_lem c.args.self.now.limits _ _ _ _ c.in-Static.is (rw zero-add at c.push.ensures.did)

pub returns-in-Dynamic-clause-did : goal.returns-in-Dynamic-clause-did
returns-in-Dynamic-clause-did c = call_dynamic c.args.self.now.limits _ _ _ _ c.in-Dynamic.is c.push-in-Dynamic.ensures.did
