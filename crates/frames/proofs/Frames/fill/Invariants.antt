-- What the loop of `frames::Frames::fill` keeps.
use Rattle.std.proofs.Common.{◌≡◌}
use Rattle.frames.proofs.Steps.{Filling}
use Rattle.frames.proofs.Frames.fill.Given as goal

abbrev pub invariant-loop-out : goal.invariant-loop-out
invariant-loop-out l =
    Filling l.initial.self.answer.words.now l.initial.self.next l.initial.out l.out l.self.next l.len × (l.self.answer ≡ l.initial.self.answer)
