-- `sctp::sctp` meets its contract. Assumes nothing.
use borrow.Author.Rules.{rules}
use Rattle.sctp.proofs.Whole.{analysed_whole}
use Rattle.sctp.proofs.sctp.Goals as goal

pub returns : goal.returns
returns c =
    let u = rw c.split_at.ensures.front at c.compute_uses.ensures in
    let e = rw c.split_at.ensures.front at c.analyse.ensures.1 in
    (search rules, analysed_whole c.requires c.lay_index.ensures u (search rules) e)
