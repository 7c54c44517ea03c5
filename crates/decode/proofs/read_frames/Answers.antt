-- `decode::read_frames` meets its contract. Assumes nothing.
use Rattle.std.proofs.Common.{rules, Some}
use Rattle.decode.specs.Stored.{nothing}
use Rattle.decode.proofs.Turns.{too_short, long_enough, cleared, cleared_underway}
use Rattle.decode.proofs.read_frames.Goals as goal

pub returns-then-answer-lt-ANSWER_LEN : goal.returns-then-answer-lt-ANSWER_LEN
returns-then-answer-lt-ANSWER_LEN c = too_short _ _ c.if-answer-lt-ANSWER_LEN.true

pub read_last-requires : goal.read_last-requires
read_last-requires c = cleared_underway c.clear.ensures (search rules)

pub returns : goal.returns
returns c = long_enough _ _ c.if-answer-lt-ANSWER_LEN.false (c.read_last.ensures (Some nothing) (cleared c.clear.ensures (search rules)))
