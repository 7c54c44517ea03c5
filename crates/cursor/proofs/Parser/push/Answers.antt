-- `cursor::Parser::push` meets its contract. Assumes nothing.
use mathlib.Core.Path.{refl}
use Rattle.lexer.proofs.Tried.{failed}
use Rattle.cursor.proofs.Leaves.{push-done, push_stops}
use Rattle.cursor.proofs.Parser.push.Goals as goal

pub returns-in_err-i-clause-adds : goal.returns-in_err-i-clause-adds
returns-in_err-i-clause-adds c =
    rw (failed _ c.from_residual.ensures.1) (push_stops _ _ _ c.args.self.now.program.limits c.args.op c.args.g c.push_insn.new.self.counts _ c.in_err-i.ensures.did _ refl)

pub returns-clause-adds : goal.returns-clause-adds
returns-clause-adds c = push-done _ _ _ c.args.self.now.program.limits c.args.op c.args.g c.push_insn.new.self.counts _ c.in_ok-i.ensures.did _ refl
