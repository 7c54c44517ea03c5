-- What the loop of `sends::Call::send_each` keeps.
use Rattle.program.specs.Rows.{name_in}
use Rattle.machine.proofs.receivers.Walk.{Walking, Going}
use Rattle.sends.specs.Sends.{CallsIn, send_to}
use Rattle.sends.proofs.Call.send_each.Given as goal

abbrev pub invariant-loop-k : goal.invariant-loop-k
invariant-loop-k l = Going (CallsIn l.self.code.now.program.script.now l.self.code.now.program.words.now l.self.code.now.program.counts l.self.i.0 l.self.args)
    (λ L P. send_to L P l.self.i.0 (name_in l.self.code.now.program.script.now l.n)) l.set l.k-iterator.set l.initial.state l.state
    × Walking 64 l.k-iterator.set
