-- What the loop of `phis::join_rows` keeps.
use Rattle.phis.proofs.Laws.{Joining}
use Prim.Native.Nat.{◌+◌}
use Rattle.program.specs.Drafts.{DraftKept}
use Rattle.phis.proofs.join_rows.Given as goal

abbrev pub invariant-loop-x : goal.invariant-loop-x
invariant-loop-x l = Joining l.script l.initial.draft.limits l.q l.base l.initial.rest l.initial.scratch l.initial.draft.words.now l.g l.initial.draft.counts
    l.scratch l.draft.words.now l.n l.draft.counts l.rest
    × DraftKept l.initial.draft l.draft

abbrev pub decreases-loop-x : goal.decreases-loop-x
decreases-loop-x l = l.rest.left.len + l.rest.right.len
