-- `constructors::firsts::put_kinds` meets its contract. Assumes nothing.
use mathlib.Core.Path.{◌≡◌, ap, ◌∙◌}
use Prim.Native.Nat.{◌-◌, ◌/◌, ◌%◌, ◌^◌}
use native.Mathlib.Omega.{arith}
use Rattle.kinds.specs.Kinds.{tag_of}
use Rattle.constructors.proofs.firsts.Laws.{put-more, put-done}
use Rattle.constructors.proofs.firsts.put_kinds.Goals.{then-is_set, else-is_set}
use Rattle.constructors.proofs.firsts.put_kinds.Goals as goal

pub loop-a-preserved : goal.loop-a-preserved
loop-a-preserved c =
    let tag : c.tag.result ≡ 1 - c.args.bits / 2 ^ c.loop-a.a % 2 =
    elim c.if-is_set.branch [
      | then-is_set w ↦ c.tag.ensures ∙ ap tag_of w.kind-is ∙ omega (arith, w.if-is_set.true)
      | else-is_set w ↦ c.tag.ensures ∙ ap tag_of w.kind-is ∙ omega (arith, w.if-is_set.false)
    ]
    in
    rw tag (put-more c.loop-a.invariant c.requires.n_bound.0 c.requires.n_bound.1 (omega arith))

pub returns : goal.returns
returns c = put-done c.loop-a.invariant (omega arith)
