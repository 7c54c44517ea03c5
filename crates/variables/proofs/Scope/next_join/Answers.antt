-- `variables::Scope::next_join` meets its contract. Assumes nothing.
use Rattle.variables.proofs.Laws.{both_sorted, next-left, next-right, next_both, next-done}
use Rattle.variables.proofs.Scope.next_join.Goals as goal

pub returns-in-Some-Less : goal.returns-in-Some-Less
returns-in-Some-Less c =
    next-left _ _ _ _ _ _ _ (both_sorted _ c.requires.aside) (rw c.in-Some-Less.field-0-is at c.in-Some-Less.ensures) c.operand.ensures c.value_at.ensures

pub returns-in-Some-Greater : goal.returns-in-Some-Greater
returns-in-Some-Greater c =
    next-right _ _ _ _ _ _ _ (both_sorted _ c.requires.aside) (rw c.in-Some-Greater.field-0-is at c.in-Some-Greater.ensures)
    c.value_at-in-Some-Greater.ensures c.operand-in-Some-Greater.ensures

pub returns-in-Some-Equal : goal.returns-in-Some-Equal
returns-in-Some-Equal c =
    next_both _ _ _ _ _ _ _ (both_sorted _ c.requires.aside) (rw c.in-Some-Equal.field-0-is at c.in-Some-Equal.ensures)
    c.operand-in-Some-Equal.ensures c.operand-in-Some-Equal-2.ensures

pub returns-in-None : goal.returns-in-None
returns-in-None c = next-done _ _ _ _ _ _ _ (both_sorted _ c.requires.aside) c.in-None.ensures
