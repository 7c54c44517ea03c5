-- What the loop of `lexer::literal` keeps.
use Rattle.lexer.proofs.Runs.{Counting}
use Rattle.lexer.proofs.literal.Given as goal

abbrev pub invariant-loop-digit : goal.invariant-loop-digit
invariant-loop-digit l = Counting l.digits l.value l.digit-index
