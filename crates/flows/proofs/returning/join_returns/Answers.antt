-- `flows::returning::join_returns` meets its contract. Assumes nothing.
use mathlib.Core.Path.{refl, ap, ◌∙◌}
use native.Mathlib.Omega.{arith}
use Rattle.chains.specs.Left.{left}
use Rattle.flows.proofs.returning.Passes.{walk_start, back_inside}
use Rattle.flows.proofs.returning.Sets.{gather_more}
use Rattle.flows.proofs.returning.join_returns.Goals as goal

pub loop-j-init : goal.loop-j-init
loop-j-init c =
    walk_start c.args.code.now.index c.args.f.0 _ (λ os. record { on = λ k. refl }) (omega arith) (λ s. ap left c.into_iter-j-iterator.ensures.into_iter_gives ∙ c.returns-j-items.ensures s)

pub opnd_words-k-requires-clause-operand_inside : goal.opnd_words-k-requires-clause-operand_inside
opnd_words-k-requires-clause-operand_inside c = back_inside c.loop-j.invariant c.in-Some.ensures.steps c.requires.backs ((rw c.in_ok-at.was at c.returned_at.ensures).0)

pub loop-j-preserved : goal.loop-j-preserved
loop-j-preserved c =
    gather_more c.args.state.now.sizes c.args.state.now.words.now c.loop-j.invariant c.in_ok-sum.sum c.in-Some.ensures.steps ((rw c.in_ok-at.was at c.returned_at.ensures).0)
    c.opnd_words-k.ensures c.with_kind.ensures c.in_ok-sum.was
