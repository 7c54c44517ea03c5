-- What the loop of `decode::numbers` keeps.
use Rattle.decode.proofs.Digits.{Several}
use Rattle.decode.proofs.numbers.Given as goal

abbrev pub invariant-loop-k : goal.invariant-loop-k
invariant-loop-k l = Several l.initial.text l.initial.start l.initial.widths l.out l.k l.at
