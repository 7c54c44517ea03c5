-- `publish::write_each` meets its contract. Assumes nothing.
use Prim.Native.Nat.{◌+◌}
use native.Mathlib.Omega.{arith}
use borrow.Rule.Slice.PartMut.{mid_len}
use Rattle.publish.proofs.Tables.{each_done}
use Rattle.publish.proofs.write_each.Goals as goal

pub returns : goal.returns
returns g c =
    let long = mid_len c.args.at (c.args.at + c.args.n) c.args.answer.now c.requires.room in
    each_done c.loop-i.invariant (omega (arith, c.loop-i.auto.to-items, long)) _ _ (omega (arith, c.loop-i.auto.to-items, c.loop-i-test.false))
