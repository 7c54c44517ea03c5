-- `kinds::by_union` meets its contract. Assumes nothing.
use mathlib.Core.Path.{sym, ◌∙◌}
use borrow.Author.Rules.{rules}
use Rattle.kinds.proofs.Same.{eq_same}
use Rattle.kinds.proofs.Steps.{by_int}
use Rattle.kinds.proofs.by_union.Goals as goal

pub returns-then-eq : goal.returns-then-eq
returns-then-eq c =
    by_int c.args.o _ c.in_ok-union.field-0 (sym c.union.ensures ∙ c.in_ok-union.was) (eq_same _ _ (search rules)) c.wide_of.ensures
