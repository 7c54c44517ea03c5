-- `constructors::firsts::all_first_kinds` meets its contract. Assumes nothing.
use mathlib.Core.Path.{refl}
use Rattle.std.proofs.lemmas.Result.{err_from_is_err_and}
use Rattle.constructors.proofs.firsts.Classes.{class-more, class-stop, class-done}
use Rattle.constructors.proofs.firsts.all_first_kinds.Goals as goal

pub returns-in_err-first_kinds : goal.returns-in_err-first_kinds
returns-in_err-first_kinds c =
    let p = err_from_is_err_and c.from_residual.result c.from_residual.ensures.1 in
    rw (p.1, p.2)
    (class-stop c.loop-k.invariant c.args.flow.now.indexed.program.ready c.loop-k-test.true c.requires.ivars_most_bound.0 c.in_err-first_kinds.ensures refl)

pub loop-k-preserved : goal.loop-k-preserved
loop-k-preserved c =
    class-more c.loop-k.invariant c.args.flow.now.indexed.program.ready c.loop-k-test.true c.requires.ivars_most_bound.0 c.in_ok-first_kinds.ensures refl

pub returns : goal.returns
returns c = class-done c.loop-k.invariant c.args.flow.now.indexed.program.ready c.loop-k-test.false
