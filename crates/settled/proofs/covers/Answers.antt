-- `settled::covers` meets its contract. Assumes nothing.
use mathlib.Core.Path.{◌≡◌, sym, ◌∙◌}
use mathlib.Core.Bool.{false}
use borrow.Author.Rules.{rules}
use Rattle.settled.proofs.Settling.{covers-plain}
use Rattle.settled.proofs.covers.Goals as goal

pub returns-then-not-is_name : goal.returns-then-not-is_name
returns-then-not-is_name c = λ e.
    let n : c.is_name.result ≡ false = search rules in
    covers-plain _ _ (sym c.is_name.ensures ∙ n) (c.surely_covers.ensures e)
