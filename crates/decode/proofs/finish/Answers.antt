-- `decode::finish` meets its contract. Assumes nothing.
use Rattle.std.proofs.Common.{rules}
use Rattle.decode.proofs.Turns.{totals_in, whole_answer}
use Rattle.decode.proofs.finish.Goals as goal

pub starts-requires : goal.starts-requires
starts-requires c =
    let r = rw c.in-Answer.is at c.requires.is in
    let w = totals_in r.2 in
    (c.requires.len, search rules, w.instructions)

pub returns-else-partial-2 : goal.returns-else-partial-2
returns-else-partial-2 c = λ p h. let r = rw c.in-Answer.is at h in whole_answer r.2 p r.1 c.if-partial.false c.if-partial-2.false (c.starts.ensures r.0 r.2)
