-- `constructors::view::Flow::end_of` meets its contract. Assumes nothing.
use Rattle.constructors.proofs.Endings.{last_below, end_some, end_none}
use Rattle.constructors.proofs.view.Flow.end_of.Goals as goal

pub insn-requires : goal.insn-requires
insn-requires c = last_below c.args.self.now.indexed.program.words.now c.args.self.now.indexed.program.counts _ _ c.code.ensures _ c.last.ensures.ran c.in-Some.is

pub returns-in-Some : goal.returns-in-Some
returns-in-Some c = end_some _ _ _ _ c.code.ensures _ c.last.ensures.ran c.in-Some.is c.insn.ensures.row c.ends_from.ensures

pub returns-in-None : goal.returns-in-None
returns-in-None c = end_none _ _ _ _ c.code.ensures _ c.last.ensures.ran c.in-None.is
