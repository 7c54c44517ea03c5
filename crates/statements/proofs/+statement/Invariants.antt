-- What falls at each call in the cycle `statement`, and what its loops keep.
use Prim.Native.Nat.{◌*◌, ◌+◌, ◌-◌}
use lib.ListN.{length}
use Rattle.statements.proofs.Standing.{StatementsStand}
use Rattle.statements.proofs.+statement.Given as goal

abbrev pub decreases-parse_block : goal.decreases-parse_block
decreases-parse_block l = 5 * l.depth + 2

abbrev pub decreases-parse_else : goal.decreases-parse_else
decreases-parse_else l = 5 * l.depth + 3

abbrev pub decreases-parse_if : goal.decreases-parse_if
decreases-parse_if l = 5 * l.depth + 4

abbrev pub decreases-parse_statement : goal.decreases-parse_statement
decreases-parse_statement l = 5 * l.depth

abbrev pub decreases-parse_statements : goal.decreases-parse_statements
decreases-parse_statements l = 5 * l.depth + 1

abbrev pub invariant-parse_statements-loop-x : goal.invariant-parse_statements-loop-x
invariant-parse_statements-loop-x l = StatementsStand l.arm l.depth l.initial.p l.p l.v

abbrev pub decreases-parse_statements-loop-x : goal.decreases-parse_statements-loop-x
decreases-parse_statements-loop-x l = length l.initial.p.script.now - l.p.at
