-- What the loop of `decode::number` keeps.
use Rattle.decode.proofs.Digits.{Numbering}
use Rattle.decode.proofs.number.Given as goal

abbrev pub invariant-loop-i : goal.invariant-loop-i
invariant-loop-i l = Numbering l.initial.text l.initial.at l.initial.digits l.n l.i
