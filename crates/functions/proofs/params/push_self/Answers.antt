-- `functions::params::push_self` meets its contract. Assumes nothing.
use mathlib.Core.Path.{refl}
use Rattle.lexer.proofs.Tried.{failed}
use Rattle.functions.proofs.params.Laws.{adds-kept, self-none, self_no, self-yes}
use Rattle.cursor.proofs.Kept.{kept_none}
use Rattle.functions.proofs.params.push_self.Goals as goal

pub returns-in_err-i : goal.returns-in_err-i
returns-in_err-i c =
    rw (failed _ c.from_residual.ensures.1)
    (record { kept = adds-kept _ _ c.in_err-i.ensures.kept refl refl refl; pushes = self_no c.args.p.now.program.limits c.in-Some.is c.push_insn.new.self.counts _ c.in_err-i.ensures.did refl })

pub returns-in_ok-i : goal.returns-in_ok-i
returns-in_ok-i c =
    record { kept = adds-kept _ _ c.in_ok-i.ensures.kept refl refl refl; pushes = self-yes c.args.p.now.program.limits c.in-Some.is c.push_insn.new.self.counts _ c.in_ok-i.ensures.did refl refl }

pub returns-in_default : goal.returns-in_default
returns-in_default c =
    record { kept = record { kept = kept_none _; scratch = refl }; pushes = self-none c.args.p.now.program.limits c.requires.tables c.in_default.is }
