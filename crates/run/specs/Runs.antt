-- What a run promises of the state that it changes. Assumes nothing.
use Rattle.std.specs.Prelude.{◌≡◌, List, ℕ, ◌+◌, ◌≤◌}
use Rattle.rules.specs.Actions.{answered}
use Rattle.rules.specs.Program.{Limits}
use Rattle.rules.specs.Bound.{bound}
use Rattle.rules.specs.Machine.{State, state_of, start, run}
use Rattle.program.specs.View as P
use Rattle.program.specs.declared.Counts.{Counts}
use Rattle.state.specs.declared.Sizes.{Sizes}
use Rattle.state.specs.declared.Regs.{Regs}
use Rattle.state.specs.Acted.{Acted, On, Refused}
use Rattle.state.specs.View.{Attrs, state_view, StateReady}
use Rattle.state.specs.Changes.{went}
use Rattle.machine.specs.Analysed.{Suited, MachineFits, MachineReached}
pub use Rattle.steps.specs.Stamps.{StampsFresh}

-- under all limits that suit, the steps so far have led to the state of the memory and the registers
pub record Reaching (s p : List ℕ) (c : Counts) (z : Sizes) (m : List ℕ) (q : Regs) : Type 0 where
  pub at : (L : Limits) → Suited s p c L → (v : Attrs) → MachineFits s p c (P.program_view s p c) v → MachineReached L (P.program_view s p c) (state_view z v m q)

-- nothing waits, and the count is within the bound
pub record Rested (s p : List ℕ) (c : Counts) (z : Sizes) (w : List ℕ) (r : Regs) : Type 0 where
  pub ready : StateReady z w r
  pub rest : r.insns.len + r.blocks.len ≡ 0
  pub count : r.count ≤ bound (P.program_view s p c)

abbrev pub RestedIf : List ℕ → List ℕ → Counts → Sizes → List ℕ → Acted → Type 0
RestedIf s p c z w (On r) = Rested s p c z w r
RestedIf s p c z w (Refused n) = Unit {0}

-- the outcome is that of the rules' run from the start, with the bound as its number of steps
pub record RunRan (s p : List ℕ) (c : Counts) (z : Sizes) (w : List ℕ) (r : Acted) : Type 0 where
  pub is : (L : Limits) → Suited s p c L → (v : Attrs) → MachineFits s p c (P.program_view s p c) v → (t : State) → start L (P.program_view s p c) ≡ answered t
      → state_of L (P.program_view s p c) (went z v w r) ≡ run L (P.program_view s p c) (bound (P.program_view s p c)) t
  pub ok : RestedIf s p c z w r
