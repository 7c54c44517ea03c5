-- `chains::chain` meets its contract. Assumes nothing.
use mathlib.Core.Path.{sym, ◌∙◌}
use native.Mathlib.Omega.{arith}
use Rattle.chains.proofs.Laws.{place_low, chain_start, chain_none, chain_skip, chain_more}
use Rattle.chains.proofs.chain.Goals as goal

pub loop-i-init : goal.loop-i-init
loop-i-init c = chain_start _ _ _ c.args.scratch.now _ (rw (c.from-heads.ensures) at c.fill.ensures)

pub loop-i-preserved-then-k-lt-HEADS : goal.loop-i-preserved-then-k-lt-HEADS
loop-i-preserved-then-k-lt-HEADS c =
    rw c.from-heads.ensures
    (chain_more c.loop-i.invariant (omega arith) _ (sym c.in-Some.is ∙ c.key_of.ensures)
    (omega (arith, c.fill.ensures.only.len_same, c.requires))
    c.args.program.now.ready.insns
    (place_low c.args.sort) (omega arith))

pub loop-i-preserved-else-k-lt-HEADS : goal.loop-i-preserved-else-k-lt-HEADS
loop-i-preserved-else-k-lt-HEADS c = chain_skip c.loop-i.invariant (omega arith) _ (sym c.in-Some.is ∙ c.key_of.ensures) (omega arith)

pub loop-i-preserved : goal.loop-i-preserved
loop-i-preserved c = chain_none c.loop-i.invariant (omega arith) (sym c.in_default.is ∙ c.key_of.ensures)
