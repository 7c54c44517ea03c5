-- What the loop of `lexer::behind` keeps.
use Rattle.std.proofs.Common.{Bool, ℕ}
use Rattle.lexer.specs.Lexed.{Passes}
use Rattle.lexer.proofs.Runs.{Skipping}
use Rattle.lexer.proofs.behind.Given as goal

abbrev pub invariant-loop-i : goal.invariant-loop-i
invariant-loop-i g l = (f : ℕ → Bool) → Passes f (goal.F-post g l.test) → Skipping f l.script l.fn.at l.i
