-- What the loop of `next` of the frames keeps.
use Rattle.std.proofs.Common.{◌≡◌}
use Rattle.frames.specs.Text.{left_at}
use Rattle.frames.proofs.Steps.{Passing}
use Rattle.frames.proofs.FramesIterator.next.Given as goal

abbrev pub invariant-loop-self : goal.invariant-loop-self
invariant-loop-self l = Passing l.initial.self.answer.words.now l.initial.self.next l.self.next × (l.self.answer ≡ l.initial.self.answer)

abbrev pub decreases-loop-self : goal.decreases-loop-self
decreases-loop-self l = left_at l.self.next
