-- What the start promises of the memory that it fills. Assumes nothing.
use Rattle.std.specs.Prelude.{◌≡◌, List, ℕ, ◌<◌}
use Rattle.rules.specs.Program.{Limits, entry, main_function}
use Rattle.rules.specs.Machine.{state_of, start}
use Rattle.program.specs.View as P
use Rattle.program.specs.declared.Counts.{Counts}
use Rattle.state.specs.declared.Sizes.{Sizes}
use Rattle.state.specs.declared.Regs.{Regs}
use Rattle.state.specs.Acted.{Acted, On, Refused}
use Rattle.state.specs.View.{Attrs, StateReady}
use Rattle.state.specs.Changes.{went}
use Rattle.machine.specs.Analysed.{Suited, MachineFits}

-- block b is where the main function begins
pub record Mains (s p : List ℕ) (c : Counts) (b : ℕ) : Type 0 where
  pub is : b ≡ entry (P.program_view s p c) (main_function (P.program_view s p c))
  pub inside : b < c.blocks

-- ready, and nothing was taken yet
pub record StartBegun (z : Sizes) (w : List ℕ) (r : Regs) : Type 0 where
  pub ready : StateReady z w r
  pub count : r.count ≡ 0

abbrev pub BegunIf : Sizes → List ℕ → Acted → Type 0
BegunIf z w (On r) = StartBegun z w r
BegunIf z w (Refused n) = Unit {0}

-- the outcome is that of the rules' start
pub record Started (s p : List ℕ) (c : Counts) (z : Sizes) (w : List ℕ) (r : Acted) : Type 0 where
  pub is : (L : Limits) → Suited s p c L → (v : Attrs) → MachineFits s p c (P.program_view s p c) v → state_of L (P.program_view s p c) (went z v w r) ≡ start L (P.program_view s p c)
  pub ok : BegunIf z w r
