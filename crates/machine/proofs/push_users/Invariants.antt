-- What the loop of `machine::push_users` keeps.
use Rattle.state.proofs.Lists.{Waking}
use Rattle.machine.specs.Analysed.{homes_of}
use Rattle.machine.proofs.push_users.Given as goal

abbrev pub invariant-loop-user : goal.invariant-loop-user
invariant-loop-user l = Waking l.users (homes_of l.program.words.now l.program.counts) l.initial.state l.state l.user-index
