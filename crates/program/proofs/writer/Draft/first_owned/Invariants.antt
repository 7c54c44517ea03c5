-- None of the functions so far is one of the class.
use Rattle.std.proofs.Common.{ℕ, ◌≡◌, ◌<◌, false}
use Rattle.rules.specs.Lists.{is_just}
use Rattle.program.specs.Rows.{owner_in, fun_at}
use Rattle.program.proofs.writer.Draft.first_owned.Given as goal

abbrev pub invariant-loop-f : goal.invariant-loop-f
invariant-loop-f l = (f : ℕ) → f < l.f → is_just (owner_in (fun_at l.self.words.now f).class) l.k.0 ≡ false
