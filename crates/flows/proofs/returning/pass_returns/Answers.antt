-- `flows::returning::pass_returns` meets its contract. Assumes nothing.
use mathlib.Core.Path.{ap, ◌∙◌}
use native.Mathlib.Omega.{arith}
use Rattle.chains.specs.Left.{left}
use Rattle.flows.proofs.returning.Passes.{walk_start, back_inside, back_more}
use Rattle.flows.proofs.returning.pass_returns.Goals as goal

pub loop-j-init : goal.loop-j-init
loop-j-init c =
    walk_start c.args.code.now.index c.args.f.0 _ (λ os v p. p) (omega arith) (λ s. ap left c.into_iter-j-iterator.ensures.into_iter_gives ∙ c.returns-j-items.ensures s)

pub loop-j-preserved : goal.loop-j-preserved
loop-j-preserved c = back_more c.args.state.now.sizes c.args.state.now.words.now c.loop-j.invariant c.in-Some.ensures.steps c.returned.ensures c.pass_one-y.ensures

pub pass_one-y-requires : goal.pass_one-y-requires
pass_one-y-requires c = record { operand_inside = back_inside c.loop-j.invariant c.in-Some.ensures.steps c.requires.backs c.returned.ensures }
