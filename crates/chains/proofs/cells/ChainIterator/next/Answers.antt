-- `chains::cells::Chain::next` meets its contract. Assumes nothing.
use native.Mathlib.Omega.{arith}
use Rattle.std.proofs.Common.{rules, ◌≡◌, length, ap, None}
use Rattle.chains.proofs.Remaining.{nothing_left, next_left, next_held}
use Rattle.chains.proofs.cells.ChainIterator.next.Goals as goal

pub returns-in_err-next-clause-steps : goal.returns-in_err-next-clause-steps
returns-in_err-next-clause-steps c =
    let e : c.from_residual.result ≡ None = search rules in
    let d = nothing_left c.args.self.now (omega (arith, c.in_err-next.ensures.lookup)) in
    rw e (d, d)

pub invariant_of-self : goal.invariant_of-self
invariant_of-self c = record { few = c.args.self.now.few; held = next_held c.args.self.now (search rules) (search rules) }

pub returns-clause-steps : goal.returns-clause-steps
returns-clause-steps c = next_left c.args.self.now (search rules) (search rules)

pub returns-clause-goes : goal.returns-clause-goes
returns-clause-goes c = let e = ap (λ (l : _). length l) (returns-clause-steps c) in search rules
