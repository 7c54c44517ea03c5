-- `functions::params::new_fun` meets its contract. Assumes nothing.
use mathlib.Core.Path.{refl}
use Rattle.lexer.proofs.Tried.{failed}
use Rattle.functions.proofs.params.Laws.{adds-kept, fun_no, fun_yes}
use Rattle.functions.proofs.params.new_fun.Goals as goal

pub returns-in_err-f : goal.returns-in_err-f
returns-in_err-f c =
    rw (failed _ c.from_residual.ensures.1) (record {
      kept = adds-kept _ _ c.in_err-f.ensures.kept refl refl refl;
      funs = fun_no c.args.p.now.program.limits c.args.n c.new_fun.new.self.counts _ c.in_err-f.ensures.did refl;
    })

pub returns : goal.returns
returns c =
    record { kept = adds-kept _ _ c.in_ok-f.ensures.kept refl refl refl; funs = fun_yes c.args.p.now.program.limits c.args.n c.new_fun.new.self.counts _ c.in_ok-f.ensures.did refl refl }
