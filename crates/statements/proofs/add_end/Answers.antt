-- `statements::add_end` meets its contract. Assumes nothing.
use Rattle.lexer.proofs.Tried.{failed}
use Rattle.statements.proofs.Standing.{end_added, end_refused}
use Rattle.statements.proofs.add_end.Goals as goal

pub returns-in_err-push_insn : goal.returns-in_err-push_insn
returns-in_err-push_insn c =
    rw (failed _ c.from_residual.ensures.1) (end_refused c.args.p.now _ c.push_insn.ensures.kept c.args.b c.args.op c.args.g c.push_insn.ensures.did c.in_err-push_insn.was)

pub returns : goal.returns
returns c = end_added c.args.p.now _ c.push_insn.ensures.kept c.args.b c.args.op c.args.g c.push_insn.ensures.did c.in_ok-push_insn.was
