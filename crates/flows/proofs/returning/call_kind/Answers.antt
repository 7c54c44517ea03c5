-- `flows::returning::call_kind` meets its contract. Assumes nothing.
use mathlib.Core.Logic.{inl, inr}
use borrow.Author.Rules.{rules}
use Rattle.flows.proofs.returning.Passes.{call-kind-is}
use Rattle.flows.proofs.returning.Sets.{call-kind-set}
use Rattle.flows.proofs.returning.call_kind.Goals as goal

pub returns : goal.returns
returns c = elim c.joined.ensures [
  | inl q ↦ rw q.3 (call-kind-set c.join_called-set.ensures q.1 q.2)
  | inr q ↦ call-kind-is (λ x y e. search rules) q
]
