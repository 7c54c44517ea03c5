-- `constructors::view::Flow::sets_of` meets its contract. Assumes nothing.
use mathlib.Core.Path.{ap, ◌∙◌}
use native.Mathlib.Omega.{arith}
use Rattle.chains.specs.Left.{left}
use Rattle.chains.proofs.Remaining.{chain_within}
use Rattle.constructors.proofs.Setting.{ok_some, set-start, set_more}
use Rattle.constructors.proofs.view.Flow.sets_of.Goals as goal

pub loop-i-init : goal.loop-i-init
loop-i-init c =
    let i = c.args.self.now.indexed in
    set-start _ _ _ _ _
    (chain_within i.chains.now i.program.counts.insns 0 c.args.b.0 _
    (i.index.codes i.program.script.now c.args.b.0 (omega (arith, c.requires.k_lt_classes.1, i.program.ready.blocks))))
    (ap left c.into_iter-i-iterator.ensures.into_iter_gives ∙ c.code-i-items.ensures c.args.self.now.indexed.program.script.now)

pub loop-i-preserved-in-SetIvar : goal.loop-i-preserved-in-SetIvar
loop-i-preserved-in-SetIvar c =
    set_more c.loop-i.invariant c.in-Some.ensures.steps c.insn.ensures.row c.named.ensures c.in-SetIvar.is
    (c.args.self.now.indexed.program.ready.ivars _ c.requires.k_lt_classes.0) (ok_some _ _ c.in_ok-places.ensures.value)
