-- `sends::Call::send_to` meets its contract. Assumes nothing.
use Rattle.std.specs.Prelude.{Ok}
use Rattle.sends.proofs.Called.{one_found, idle_did}
use Rattle.sends.proofs.Call.send_to.Goals as goal

pub returns-then-settled : goal.returns-then-settled
returns-then-settled c =
    one_found c.args.self.now.code.now.program.script.now c.args.self.now.code.now.program.words.now c.args.self.now.code.now.program.counts _ _ c.method_named.ensures
    (Ok tt) (rw c.in_ok-f.was at c.ok_or.ensures.ok_part) (λ s. idle_did ((rw (c.tables.ensures.0, c.tables.ensures.1) at c.settled.ensures) c.if-settled.true s c.args.self.now.args))

pub returns : goal.returns
returns c = one_found c.args.self.now.code.now.program.script.now c.args.self.now.code.now.program.words.now c.args.self.now.code.now.program.counts _ _
    c.method_named.ensures c.set_off.result (rw c.in_ok-f.was at c.ok_or.ensures.ok_part) c.set_off.ensures
