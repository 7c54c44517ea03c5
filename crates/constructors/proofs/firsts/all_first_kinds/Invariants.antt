-- What the loop of `constructors::firsts::all_first_kinds` keeps.
use Rattle.constructors.proofs.firsts.Classes.{Classes}
use Rattle.constructors.proofs.firsts.all_first_kinds.Given as goal

abbrev pub invariant-loop-k : goal.invariant-loop-k
invariant-loop-k l =
    Classes l.flow.indexed.program.script.now l.flow.indexed.program.words.now l.flow.indexed.program.counts l.tags l.payloads l.initial.words l.words l.k
