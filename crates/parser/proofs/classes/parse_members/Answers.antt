-- `parser::classes::parse_members` meets its contract. Assumes nothing.
use mathlib.Core.Path.{ap, ◌∙◌}
use Rattle.std.specs.Prelude.{Ok}
use Rattle.lexer.proofs.Tried.{failed}
use Rattle.parser.proofs.classes.Readers.{stands_start, stands_no, stands_end, stands_on}
use Rattle.parser.proofs.classes.parse_members.Goals as goal

pub loop-init : goal.loop-init
loop-init c = stands_start _ _ c.requires.rests

pub returns-in_err-parse_member : goal.returns-in_err-parse_member
returns-in_err-parse_member c =
    rw (failed _ c.from_residual.ensures.1) (stands_no c.loop.invariant _ c.parse_member.ensures c.in_err-parse_member.was)

pub loop-preserved : goal.loop-preserved
loop-preserved c = stands_on c.loop.invariant _ c.parse_member.ensures (c.in_ok-parse_member.was ∙ ap Ok c.if-branch.true)

pub returns : goal.returns
returns c = stands_end c.loop.invariant _ c.parse_member.ensures (c.in_ok-parse_member.was ∙ ap Ok c.if-branch.false)
