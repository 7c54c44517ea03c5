-- `sends::passing::compare` meets its contract. Assumes nothing.
use mathlib.Core.Path.{sym, ◌∙◌}
use Rattle.sends.proofs.passing.Passes.{covers_empty, covers-any, set_tells, same_tells}
use Rattle.sends.proofs.passing.compare.Goals as goal

pub returns-then-is_empty : goal.returns-then-is_empty
returns-then-is_empty c = covers_empty _ _ (sym c.is_empty.ensures ∙ c.if-is_empty.true)

pub returns-then-is_set : goal.returns-then-is_set
returns-then-is_set c = set_tells _ _ _ _ (sym c.is_set.ensures ∙ c.if-is_set.true) (sym c.in_ok-t.was ∙ c.as_set.ensures)

pub returns-then-is_any : goal.returns-then-is_any
returns-then-is_any c = covers-any _ _ (sym c.is_any.ensures ∙ c.if-is_any.true)

pub returns : goal.returns
returns c = rw c.then_some.ensures (same_tells _ _ _ _ (sym c.is_name.ensures ∙ c.if-is_name.false) c.eq.result c.eq.ensures)
