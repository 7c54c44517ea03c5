-- What the loop of `decode::starts` keeps.
use Rattle.std.proofs.Common.{◌≡◌, ◌≤◌, length}
use Rattle.answer.specs.Layout.{answer_length}
use Rattle.decode.specs.Stored.{Begun}
use Rattle.decode.specs.Standing.{begun_image}
use Rattle.decode.specs.Taking.{Stands}
use Rattle.decode.proofs.starts.Given as goal

abbrev pub invariant-loop-k : goal.invariant-loop-k
invariant-loop-k l =
    (length l.answer ≡ answer_length) × (l.partial.row ≤ l.k) × (l.k ≤ l.row) × ((x : Begun) → Stands x l.initial.partial l.initial.answer → l.answer ≡ begun_image l.k x)
