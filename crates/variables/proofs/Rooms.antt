-- Room for bindings and rows: what the law of it gives at each step of a reading. Assumes nothing.
use Prim.Native.Nat.{ℕ, ◌≤◌}
use native.Mathlib.Omega.{arith}
use Rattle.memory.specs.Layout.{script_most}
use Rattle.variables.specs.Layout.{bindings_most}
use Rattle.variables.specs.Rooms.{VariablesRoom}

-- nothing is bound or set aside
pub room-none : (at : ℕ) → at ≤ script_most → VariablesRoom at 0 bindings_most
room-none at h = record { script = h; aside = omega arith; law = omega arith }

module _ {at n top : ℕ} (r : VariablesRoom at n top) where
  pub room-on : (at' : ℕ) → at ≤ at' → at' ≤ script_most → VariablesRoom at' n top
  room-on at' a b = record { script = b; aside = r.aside; law = omega (arith, r.law) }
