-- `functions::params::push_params` meets its contract. Assumes nothing.
use mathlib.Core.Path.{refl, ap}
use native.Mathlib.Omega.{arith}
use Rattle.cursor.specs.Parsers.{moved_in}
use Rattle.lexer.proofs.Tried.{failed}
use Rattle.cursor.proofs.Kept.{kept_trans}
use Rattle.functions.proofs.params.Laws.{binding_done, binding_no, binding_on}
use Rattle.functions.proofs.params.push_params.Goals as goal

pub returns-in_err-push_param : goal.returns-in_err-push_param
returns-in_err-push_param c =
    let i = c.loop-k.invariant.0 in
    rw (failed _ c.from_residual.ensures.1)
    (record {
      kept = kept_trans i.1 c.push_param.ensures.kept;
      pushes = binding_no i.0 (omega (arith, c.loop-k-test.true)) (rw i.1.limits at c.push_param.ensures.pushes) (ap (moved_in c.push_param.new.p) c.in_err-push_param.was);
    })

pub loop-k-preserved : goal.loop-k-preserved
loop-k-preserved c =
    let i = c.loop-k.invariant.0 in (
      (
        binding_on i.0 (omega (arith, c.loop-k-test.true)) (rw i.1.limits at c.push_param.ensures.pushes) (ap (moved_in c.push_param.new.p) c.in_ok-push_param.was),
        kept_trans i.1 c.push_param.ensures.kept,
      ),
      refl,
    )

pub returns : goal.returns
returns c = let i = c.loop-k.invariant.0 in record { kept = i.1; pushes = binding_done i.0 (omega (arith, c.loop-k-test.false)) }
