-- `variables::Scope::value_at` meets its contract. Assumes nothing.
use mathlib.Core.Path.{sym, ◌∙◌}
use Rattle.variables.proofs.Laws.{item-is, noted-low, value_none, value-noted, value_looked}
use Rattle.variables.proofs.Scope.value_at.Goals as goal

pub returns-then-i-eq0 : goal.returns-then-i-eq0
returns-then-i-eq0 c = let a = item-is _ _ c.in-Some-get.field-0 c.in-Some-get.ensures.lookup in value_none (rw c.in-Some.is at c.requires.noted) a.0 a.1 _ c.if-i-eq0.true

pub operand-requires : goal.operand-requires
operand-requires c =
    let a = item-is _ _ c.in-Some-get.field-0 c.in-Some-get.ensures.lookup in
    noted-low (rw c.in-Some.is at c.requires.noted) a.0 (c.from.ensures ∙ a.1) c.requires.in_bounds.0

pub returns-in-Some-get : goal.returns-in-Some-get
returns-in-Some-get c =
    let a = item-is _ _ c.in-Some-get.field-0 c.in-Some-get.ensures.lookup in
    value-noted (rw c.in-Some.is at c.requires.noted) a.0 (c.from.ensures ∙ a.1) (λ z. c.if-i-eq0.false (sym c.from.ensures ∙ z)) c.operand.ensures

pub returns : goal.returns
returns c = search value_looked
