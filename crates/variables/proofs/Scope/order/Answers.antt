-- `variables::Scope::order` meets its contract. Assumes nothing.
use Rattle.std.proofs.Common.{refl, ◌≡◌}
use Rattle.std.specs.Ordering.{nat_cmp}
use Rattle.std.specs.Cmp.Lexicographic.{slice_cmp}
use Rattle.std.proofs.lemmas.Iterator.{YieldsList-from_slice}
use Rattle.std.proofs.lemmas.Iterator.Search.{cmp_from_yields_List}
use Rattle.variables.proofs.Laws.{order-is}
use Rattle.variables.proofs.Scope.order.Goals as goal

pub returns : goal.returns
returns c =
    let is : c.cmp.result ≡ slice_cmp nat_cmp c.args.v.now c.name.result.now
    = cmp_from_yields_List (λ x y. y ≡ x) _ nat_cmp _ c.cmp.ensures.ran
    (YieldsList-from_slice c.args.v.now cc) (λ it e. YieldsList-from_slice c.name.result.now cc) (λ x y. refl) in
    rw c.name.ensures at (order-is c.args.v.now c.name.result.now c.cmp.result is)
