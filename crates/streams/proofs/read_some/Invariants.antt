-- What the loop of `streams::read_some` keeps. Assumes nothing.
use Rattle.std.proofs.Common.{◌≡◌, length}
use Rattle.std.specs.Io.KnownBytes.{Keeps}
use Rattle.streams.proofs.read_some.Given as goal

abbrev pub invariant-loop : goal.invariant-loop
invariant-loop g l =
    (length l.buffer ≡ length l.fn.buffer) × Keeps (g.R.Read.remaining l.initial.from) (g.R.Read.remaining l.from)
