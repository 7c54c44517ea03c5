-- The chains of an index are those that the functions rely on. Assumes nothing.
use mathlib.Core.Path.{◌≡◌, subst, sym}
use mathlib.Core.List.{List, []}
use Prim.Native.Nat.{ℕ, ◌≤◌, ◌<◌}
use native.Mathlib.Omega.{arith}
use Rattle.rules.specs.Program.{code}
use Rattle.program.specs.declared.Counts.{Counts}
use Rattle.program.specs.View.{program_view}
use Rattle.state.specs.declared.Sizes.{Sizes}
use Rattle.state.specs.View.{Attrs}
use Rattle.chains.specs.Chains.{ChainIs, Index}
use Rattle.memory.specs.Layout.{blocks_room}
use Rattle.machine.specs.blocks.Blocks.{HasCode, CodeIs}

module _ (z : Sizes) (m : List ℕ) (c : Counts) (x : List ℕ) (g : Index m c x) (e : z.insns ≡ c.insns) (few : z.blocks ≤ blocks_room) where
  held : (s : List ℕ) (b : ℕ) → b < z.blocks → ChainIs x z.insns 0 b (code (program_view s m c) b)
  held s b lt = subst (λ (n : ℕ). ChainIs x n 0 b (code (program_view s m c) b)) (sym e) (g.codes s b (omega arith))

  pub has_code : HasCode z x
  has_code = record { long = g.len; few = few; list = λ b. code (program_view [] m c) b; held = held [] }

  pub code_is : (s : List ℕ) (v : Attrs) → CodeIs z x (program_view s m c) v
  code_is s v = record { held = held s }
