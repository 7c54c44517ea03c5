-- What the loop of `printing::write_frames` keeps. Assumes nothing.
use Rattle.std.proofs.Common.{◌≡◌, take}
use Rattle.std.specs.Io.KnownBytes.{Appends}
use Rattle.frames.specs.declared.NextFrame.TheVariants.{Totals}
use Rattle.frames.specs.Text.{rest_of, left_at}
use Rattle.printing.proofs.Laws.{Sending}
use Rattle.printing.proofs.write_frames.Given as goal

abbrev pub invariant-loop-frames : goal.invariant-loop-frames
invariant-loop-frames g l =
    Sending l.answer.words.now l.out l.frames.next l.done × (l.frames.answer.words.now ≡ l.answer.words.now)
    × Appends (g.W.Write.contents l.initial.to) (g.W.Write.contents l.to) (take l.done (rest_of l.answer.words.now Totals))

abbrev pub decreases-loop-frames : goal.decreases-loop-frames
decreases-loop-frames g l = left_at l.frames.next
