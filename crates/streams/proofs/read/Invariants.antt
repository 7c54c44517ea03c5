-- What the loop of `streams::read` keeps. Assumes nothing.
use Rattle.std.proofs.Common.{◌-◌, length, take}
use Rattle.std.specs.Io.KnownBytes.{Consumes}
use Rattle.streams.proofs.Laws.{Reading}
use Rattle.streams.proofs.read.Given as goal

abbrev pub invariant-loop-done : goal.invariant-loop-done
invariant-loop-done g l =
    Reading l.fn.buffer l.buffer l.done × Consumes (g.R.Read.remaining l.initial.from) (g.R.Read.remaining l.from) (take l.done l.buffer)

abbrev pub decreases-loop-done : goal.decreases-loop-done
decreases-loop-done g l = length l.buffer - l.done
