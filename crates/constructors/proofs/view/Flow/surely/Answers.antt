-- `constructors::view::Flow::surely` meets its contract. Assumes nothing.
use mathlib.Core.Path.{refl}
use native.Mathlib.Omega.{arith}
use Rattle.std.proofs.lemmas.Result.{err_from_is_err_and}
use Rattle.constructors.proofs.Setting.{pass-start, pass-done, pass-stop, pass_on, pass_back}
use Rattle.constructors.proofs.view.Flow.surely.Goals as goal

pub loop-i-init : goal.loop-i-init
loop-i-init c = (pass-start _ _ _ _ _ _ (c.args.self.now.indexed.program.ready.ivars _ c.requires.k_lt_classes), refl)

pub returns-in_err-own : goal.returns-in_err-own
returns-in_err-own c =
    let p = err_from_is_err_and c.from_residual.result c.from_residual.ensures.1 in rw (p.1, p.2) (pass-stop c.loop-i.invariant.0 (omega arith) c.in_err-own.ensures)

pub loop-i-preserved-then-returns : goal.loop-i-preserved-then-returns
loop-i-preserved-then-returns c = (
  pass_back c.loop-i.invariant.0 (omega arith) c.requires.flow_placed.few (c.args.self.now.indexed.program.ready.ivars _ c.requires.k_lt_classes)
      c.args.order.now.long c.in_ok-own.ensures (rw c.loop-i.invariant.1 at c.before-ins.ensures) c.end_of.ensures c.returns.ensures c.if-returns.true,
  c.loop-i.invariant.1,
)

pub loop-i-preserved : goal.loop-i-preserved
loop-i-preserved c = (
  pass_on c.loop-i.invariant.0 (omega arith) c.requires.flow_placed.few (c.args.self.now.indexed.program.ready.ivars _ c.requires.k_lt_classes)
      c.args.order.now.long c.in_ok-own.ensures (rw c.loop-i.invariant.1 at c.before-ins.ensures) c.end_of.ensures c.returns.ensures c.if-returns.false,
  c.loop-i.invariant.1,
)

pub returns : goal.returns
returns c = pass-done c.loop-i.invariant.0 (omega arith)
