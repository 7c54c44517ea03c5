-- `sends::passing::pass_arguments` meets its contract. Assumes nothing.
use mathlib.Core.Path.{ap, ◌∙◌}
use Rattle.std.proofs.lemmas.Result.{err_from_is_err_and}
use Rattle.chains.specs.Left.{left}
use Rattle.machine.proofs.blocks.Walk.{walk_start, walk_stop, walk_done}
use Rattle.sends.proofs.passing.Passes.{params_within, passed_all}
use Rattle.sends.proofs.passing.pass_arguments.Goals as goal

pub loop-j-init : goal.loop-j-init
loop-j-init c =
    walk_start _ _ _ c.args.state.now
    (params_within c.requires.has_params (λ l d. ap left c.into_iter-j-iterator.ensures.into_iter_gives ∙ c.new-j-items.ensures l (rw c.index.ensures d)))

pub returns-in_err-pass_to : goal.returns-in_err-pass_to
returns-in_err-pass_to c =
    let p = err_from_is_err_and c.from_residual.result c.from_residual.ensures.1 in
    rw (p.1, p.2)
    (passed_all (λ l d. ap left c.into_iter-j-iterator.ensures.into_iter_gives ∙ c.new-j-items.ensures l (rw c.index.ensures d))
    (walk_stop c.loop-j.invariant c.in-Some.ensures.steps c.pass_to.ensures c.in_err-pass_to.was))

pub returns : goal.returns
returns c =
    passed_all (λ l d. ap left c.into_iter-j-iterator.ensures.into_iter_gives ∙ c.new-j-items.ensures l (rw c.index.ensures d))
    (walk_done c.loop-j.invariant c.in-None.ensures.steps.0)
