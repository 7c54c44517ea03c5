-- What a call and its function have. Assumes nothing.
use Rattle.std.specs.Prelude.{◌≡◌, ℕ, length}
use Rattle.rules.specs.Program.{Program, about, op_of, entry, parameters}
use Rattle.state.specs.View.{Attrs}

-- function f has block e as its entry and n Params, instruction i has k arguments
pub record CallIs (i f e n k : ℕ) (p : Program) (v : Attrs) : Type 0 where
  pub entered : entry p f ≡ e
  pub params : length (parameters p f) ≡ n
  pub args : length (about (op_of p i)).listed ≡ k
