-- `ids::upward::ClassWalk::next` meets its contract. Assumes nothing.
use mathlib.Core.Path.{sym, ◌∙◌}
use Rattle.std.proofs.Common.{rules, ◌≡◌, length, ap, None, Some}
use Rattle.ids.proofs.Walk.{members_step, members_done}
use Rattle.ids.proofs.upward.ClassWalkIterator.next.Goals as goal

pub returns-in_err-c-clause-steps : goal.returns-in_err-c-clause-steps
returns-in_err-c-clause-steps c =
    let e : c.from_residual.result ≡ None = search rules in
    let n : c.smallest.result ≡ None = search rules in
    let d = members_done c.args.self.now.set (sym c.smallest.ensures ∙ n) in
    rw e (d, d)

pub returns-clause-steps : goal.returns-clause-steps
returns-clause-steps c =
    let n : c.smallest.result ≡ Some (c.in_ok-c.c, c.in_ok-c.rest) = search rules in
    (members_step c.args.self.now.set c.in_ok-c.c c.in_ok-c.rest (search rules) (sym c.smallest.ensures ∙ n)).walk

pub returns-clause-goes : goal.returns-clause-goes
returns-clause-goes c =
    let n : c.smallest.result ≡ Some (c.in_ok-c.c, c.in_ok-c.rest) = search rules in
    let e = ap (λ (l : _). length l) (members_step c.args.self.now.set c.in_ok-c.c c.in_ok-c.rest (search rules) (sym c.smallest.ensures ∙ n)).walk in
    search rules
