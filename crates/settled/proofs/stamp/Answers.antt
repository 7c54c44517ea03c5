-- `settled::stamp` meets its contract. Assumes nothing.
use Rattle.settled.proofs.Settling.{none_settled}
use mathlib.Core.Path.{sym, ◌∙◌}
use borrow.Author.Tests.{eqb-true}
use Rattle.kinds.proofs.Told.{set_tag}
use Rattle.settled.proofs.stamp.Goals as goal

pub settled-requires-clause-classes_below : goal.settled-requires-clause-classes_below
settled-requires-clause-classes_below c = c.requires.classes_below (eqb-true _ 8 (set_tag _ c.args.o.bits ∙ sym c.is_set.ensures ∙ c.if-is_set.true))

pub returns : goal.returns
returns c = none_settled
