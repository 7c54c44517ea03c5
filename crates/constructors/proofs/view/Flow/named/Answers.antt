-- `constructors::view::Flow::named` meets its contract. Assumes nothing.
use native.Mathlib.Omega.{arith}
use Rattle.lookups.specs.Look.{is_ivar, ivar_row}
use Rattle.ids.proofs.Bits.{one_shl}
use Rattle.constructors.proofs.Naming.{name-start, name-skip, name-more, name_told}
use Rattle.constructors.proofs.view.Flow.named.Goals.{then-is_ivar, else-is_ivar}
use Rattle.constructors.proofs.view.Flow.named.Goals as goal

pub loop-a-init : goal.loop-a-init
loop-a-init c = name-start _ _ _ _ _

pub loop-a-preserved : goal.loop-a-preserved
unfolding is_ivar ivar_row
loop-a-preserved c =
    let same = rw (c.name-wanted.ensures) at c.is_ivar.ensures in
    elim c.if-is_ivar.branch [
      | then-is_ivar w ↦ rw w.bits-is
          (name-more c.loop-a.invariant (omega arith) same
          (one_shl 64 c.loop-a.a (omega (arith, c.args.self.now.indexed.program.ready.ivars _ c.requires, c.ivars_of-a-end.ensures))) w.if-is_ivar.true)
      | else-is_ivar w ↦ rw w.bits-is (name-skip c.loop-a.invariant (omega arith) same w.if-is_ivar.false)
    ]

pub returns : goal.returns
returns c = name_told _ c.loop-a.invariant (omega (arith, c.loop-a.invariant.high, c.ivars_of-a-end.ensures)) c.requires c.then_some.ensures
