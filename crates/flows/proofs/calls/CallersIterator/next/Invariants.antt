-- What the loop of `flows::calls::Callers::next` keeps.
use mathlib.Core.Path.{◌≡◌}
use Prim.Native.Nat.{◌-◌, ◌<◌}
use Rattle.state.specs.View.{called_of}
use Rattle.memory.specs.Layout.{row_words}
use Rattle.flows.specs.Left.{callers_in, callers_left}
use Rattle.flows.proofs.calls.CallersIterator.next.Given as goal

abbrev pub invariant-loop-left : goal.invariant-loop-left
invariant-loop-left l =
    (l.word < row_words) × (callers_left l.self ≡ callers_in (called_of l.self.state.now.sizes l.self.state.now.words.now) l.self.f.0 l.word l.left)

abbrev pub decreases-loop-left : goal.decreases-loop-left
decreases-loop-left l = row_words - l.word
