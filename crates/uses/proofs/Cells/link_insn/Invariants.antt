-- What the loop of `uses::Cells::link_insn` keeps.
use Rattle.uses.proofs.Linking.{Turning}
use Rattle.uses.proofs.Cells.link_insn.Given as goal

abbrev pub invariant-loop-q : goal.invariant-loop-q
invariant-loop-q l = Turning l.program.words.now l.n l.fn.i.0 l.used l.initial.self.words.now l.self.words.now l.self.free l.q
