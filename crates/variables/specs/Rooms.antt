-- Room for bindings and rows. Assumes nothing.
use Rattle.std.specs.Prelude.{ℕ, ◌+◌, ◌*◌, ◌≤◌}
use Rattle.memory.specs.Layout.{script_most}
use Rattle.variables.specs.Layout.{bindings_most, entries_most}

-- `at` is the place in the script, n the number of bindings, top the place behind what is set aside.
-- A binding takes two bytes of the script, and what is set aside was bound.
pub record VariablesRoom (at n top : ℕ) : Type 0 where
  pub script : at ≤ script_most
  pub aside : bindings_most ≤ top
  pub law : 2 * (n + top) ≤ at + entries_most
