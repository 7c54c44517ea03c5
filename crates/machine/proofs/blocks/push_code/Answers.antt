-- `machine::blocks::push_code` meets its contract. Assumes nothing.
use mathlib.Core.Path.{◌≡◌, ap, ◌∙◌}
use Rattle.std.specs.Prelude.{Err}
use borrow.Author.Rules.{rules}
use Rattle.chains.specs.Left.{left}
use Rattle.chains.proofs.Remaining.{chain_within}
use Rattle.machine.proofs.blocks.Coding.{coded}
use Rattle.machine.proofs.blocks.Walk.{walk_start, walk_stop, walk_done}
use Rattle.machine.proofs.blocks.push_code.Goals as goal

pub new-i-items-requires-clause-stands : goal.new-i-items-requires-clause-stands
new-i-items-requires-clause-stands c = (c.requires.has_code.list c.args.b.0, rw c.index.ensures (c.requires.has_code.held c.args.b.0 c.requires.b_lt_blocks))

pub loop-i-init : goal.loop-i-init
loop-i-init c =
    let d = c.requires.has_code.held c.args.b.0 c.requires.b_lt_blocks in
    walk_start _ _ _ c.args.state.now
    (rw (c.into_iter-i-iterator.ensures.into_iter_gives, c.new-i-items.ensures (c.requires.has_code.list c.args.b.0) (rw c.index.ensures d)) (chain_within _ _ 0 _ _ d))

pub returns-in_err-push_insn : goal.returns-in_err-push_insn
returns-in_err-push_insn c =
    let e : c.from_residual.result ≡ Err c.in_err-push_insn.field-0.0 = search rules in
    rw e
    (coded c.requires.b_lt_blocks (λ l d. ap left c.into_iter-i-iterator.ensures.into_iter_gives ∙ c.new-i-items.ensures l (rw c.index.ensures d))
    (walk_stop c.loop-i.invariant c.in-Some.ensures.steps c.push_insn.ensures c.in_err-push_insn.was))

pub returns : goal.returns
returns c =
    coded c.requires.b_lt_blocks (λ l d. ap left c.into_iter-i-iterator.ensures.into_iter_gives ∙ c.new-i-items.ensures l (rw c.index.ensures d))
    (walk_done c.loop-i.invariant c.in-None.ensures.steps.0)
