-- `frames::Frames::user` meets its contract. Assumes nothing.
use Rattle.std.proofs.Common.{rules}
use Rattle.frames.proofs.Steps.{use_next, use_more}
use Rattle.frames.proofs.Frames.user.Goals as goal

pub returns-then-end-j : goal.returns-then-end-j
returns-then-end-j c = search use_next

pub returns : goal.returns
returns c = search (rules, use_more)
