-- `flows::param` meets its contract. Assumes nothing.
use mathlib.Core.Logic.{inl, inr}
use Rattle.flows.proofs.Callers.{param_kind, param_set}
use borrow.Author.Rules.{rules}
use Rattle.flows.proofs.param.Goals as goal

pub returns : goal.returns
returns c = elim c.joined.ensures [
  | inl q ↦ rw q.3 (param_set c.join_sets-set.ensures q.1 q.2)
  | inr q ↦ param_kind (λ x y e. search rules) q
]
