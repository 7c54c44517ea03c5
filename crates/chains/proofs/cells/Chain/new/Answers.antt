-- `chains::cells::Chain::new` meets its contract. Assumes nothing.
use native.Mathlib.Omega.{arith}
use Rattle.chains.proofs.Laws.{place_low}
use Rattle.chains.proofs.Remaining.{left_is, left_held}
use Rattle.chains.proofs.cells.Chain.new.Goals as goal

pub invariant_of-result-clause-held : goal.invariant_of-result-clause-held
invariant_of-result-clause-held c =
    rw c.from-heads.ensures
    (left_held c.args.chains.now c.args.n _ c.args.k (omega (arith, c.requires.room)) (place_low c.args.sort) (omega (arith, c.requires.room)) _ c.requires.stands.1)

pub returns : goal.returns
returns c =
    rw c.from-heads.ensures
    (left_is c.args.chains.now c.args.n _ c.args.k (omega (arith, c.requires.room)) (place_low c.args.sort) (omega (arith, c.requires.room)))
