-- `cursor::terms::assign` meets its contract. Assumes nothing.
use mathlib.Core.Path.{refl, sym, ◌∙◌}
use Rattle.cursor.proofs.terms.Terms.{assign_no, assign_yes}
use Rattle.cursor.proofs.terms.assign.Goals as goal

pub returns-then-is_some : goal.returns-then-is_some
returns-then-is_some c = λ d e. assign_no _ c.args.n c.args.v d _ c.fixed_value.ensures.fixed _ (sym c.is_some.ensures ∙ c.if-is_some.true)

pub returns : goal.returns
returns c = λ d e. assign_yes _ c.args.n c.args.v d _ c.fixed_value.ensures.fixed (sym c.is_some.ensures ∙ c.if-is_some.false) (rw (← e) at c.set_var.ensures) refl
