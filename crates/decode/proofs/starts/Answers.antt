-- `decode::starts` meets its contract. Assumes nothing.
use Rattle.std.proofs.Common.{rules}
use Rattle.decode.proofs.Taking.{starts_more}
use Rattle.decode.proofs.starts.Goals as goal

pub loop-k-preserved : goal.loop-k-preserved
loop-k-preserved c =
    let v = c.loop-k.invariant in
    (search rules, search rules, search rules, λ x h. starts_more h v.1 (search rules) (v.3 x h))
