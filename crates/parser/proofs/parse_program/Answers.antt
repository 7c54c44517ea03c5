-- `parser::parse_program` meets its contract. Assumes nothing.
use Rattle.lexer.proofs.Tried.{failed}
use Rattle.parser.proofs.classes.Readers.{stands_start, stands_no}
use Rattle.parser.proofs.parse_program.Goals as goal

pub loop-init : goal.loop-init
loop-init c = stands_start _ _ c.requires.rests

pub returns-in_err-parse_top : goal.returns-in_err-parse_top
returns-in_err-parse_top c =
    rw (failed _ c.from_residual.ensures.1) (stands_no c.loop.invariant _ c.parse_top.ensures c.in_err-parse_top.was)
